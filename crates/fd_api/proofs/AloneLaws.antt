-- What a run over a store that nobody else writes tells, by induction over its requests.
use Rattle.std.proofs.Common.{◌≡◌, ℕ, ◌+◌, ◌-◌, List, [], ◌∷◌, ◌++◌, length, Result, Ok, Err, sym, ap, ◌∙◌, subst, arith, append_assoc, length-append, inl, inr}
use Rattle.std.proofs.lemmas.List.{append_cancel_left, append-nil}
use Rattle.fd_kinds.specs.History.{History, LocalView, history_of, count_of, Adds, Writes, Reads, Stands}
use Rattle.fd_kinds.specs.declared.row.Row.{Row}
use Rattle.fd_kinds.specs.declared.query.Query.{Query}
use Rattle.fd_kinds.specs.declared.store.WriteRefusal.{WriteRefusal}
use Rattle.fd_kinds.specs.declared.store.WriteRefusal.TheVariants as write
use Rattle.fd_kinds.specs.declared.store.ReadRefusal.{ReadRefusal}
use Rattle.fd_kinds.specs.declared.store.ReadRefusal.TheVariants as read
use Rattle.fd_kinds.specs.declared.store.Seen.{Seen}
use Rattle.fd_kinds.specs.Stores.{Written, numbered_from, alone}
use Rattle.fd_kinds.proofs.StoreLaws.{alone-write, alone-read, alone-stand}
use Rattle.fd_http.specs.declared.limits.TheConstants.{MOST_REQUESTS}
use Rattle.fd_http.specs.declared.request.Request.{Request}
use Rattle.fd_http.specs.declared.replies.Response.{Response}
use Rattle.fd_api.specs.declared.demand.Demand.{Demand}
use Rattle.fd_api.specs.declared.demand.Demand.TheVariants as asked
use Rattle.fd_api.specs.declared.note.Note.{Note}
use Rattle.fd_api.specs.declared.note.Note.TheVariants.{Read, Stood, NotDrawn, Spent, Refused, Faulted, Short}
use Rattle.fd_api.specs.Effects.{TellsWrite, TellsRead, Does, Handles}
use Rattle.fd_api.specs.Streams.{Streams}
use Rattle.fd_api.specs.declared.sessions.EndKind.{EndKind}
use Rattle.fd_api.specs.Sessions.{Runs, Ends}
use Rattle.fd_api.specs.Accounts.{Accounts}
use Rattle.fd_api.specs.Alone.{Exact, AloneRan, AloneSessionRan}
use Rattle.fd_api.proofs.RunLaws.{runs}

numbered_more : (first : ℕ) (old more : History) → numbered_from first (old ++ more) ≡ numbered_from first old ++ numbered_from (first + length old) more
numbered_more first [] more = ap (λ n. numbered_from n more) (omega arith)
numbered_more first (rows ∷ old) more = ap (λ l. record { number = first; rows = rows } ∷ l)
    (numbered_more (first + 1) old more ∙ ap (λ n. numbered_from (first + 1) old ++ numbered_from n more) (omega arith))

-- what one note comes to: the count of batches after it
abbrev Counts : ℕ → Note → ℕ → Type 0
Counts count note after = (notes : List Note) → Exact after notes → Exact count (note ∷ notes)

-- what one note comes to by the store before and after it
abbrev Tallies : LocalView → Note → LocalView → Type 0
Tallies old note new = Counts (count_of old) note (count_of new)

-- the store was opened with the same history, and more was added to it
record Extends (old new : LocalView) : Type 0 where
  pub opening : new.opening ≡ old.opening
  pub more : History
  pub added : new.added ≡ old.added ++ more

extends_same : (old new : LocalView) → new ≡ old → Extends old new
extends_same old new same = record { opening = ap (λ (v : LocalView). v.opening) same; more = []; added = ap (λ (v : LocalView). v.added) same ∙ sym (append-nil old.added) }

extends_on : (a b c : LocalView) → Extends a b → Extends b c → Extends a c
extends_on a b c f g = record {
  opening = g.opening ∙ f.opening;
  more = f.more ++ g.more;
  added = g.added ∙ (ap (λ (l : History). l ++ g.more) f.added ∙ append_assoc a.added f.more g.more);
}

-- one batch more
longer : (old : LocalView) (rows : List Row) (new : LocalView) → Adds old rows new → count_of new ≡ count_of old + 1
longer old rows new adds =
    ap (λ (o : History). length (o ++ new.added)) adds.opening
    ∙ (ap (λ (l : History). length (old.opening ++ l)) adds.added
    ∙ (ap length (sym (append_assoc old.opening old.added (rows ∷ []))) ∙ length-append (old.opening ++ old.added) (rows ∷ [])))

-- what a note says that leaves the count as it is
stays : (old new : LocalView) (note said : Note) (notes : List Note) → note ≡ said → new ≡ old → Exact (count_of new) notes → (Exact (count_of old) notes → Exact (count_of old) (said ∷ notes)) → Exact (count_of old) (note ∷ notes)
stays old new note said notes noted same exact says = subst (λ m. Exact (count_of old) (m ∷ notes)) (sym noted) (says (subst (λ (v : LocalView). Exact (count_of v) notes) same exact))

wrote : (old : LocalView) (rows : List Row) (result : Result ℕ WriteRefusal) (new : LocalView) (note : Note) (reply : Response) → Writes old rows result new → TellsWrite result note reply → Extends old new × Tallies old note new
wrote old rows (Ok number) new note reply (below, is, adds) (noted, _) = (
  record { opening = adds.opening; more = rows ∷ []; added = adds.added },
  λ notes exact. subst (λ m. Exact (count_of old) (m ∷ notes)) (sym noted) (is, subst (λ n. Exact n notes) (longer old rows new adds) exact),
)
wrote old rows (Err write.DiskFault) new note reply same (noted, _) = (extends_same old new same, λ notes exact. stays old new note Faulted notes noted same exact (λ e. e))
wrote old rows (Err (write.Spent drawn)) new note reply (many, is, same) (noted, _) = (extends_same old new same, λ notes exact. stays old new note (Spent drawn) notes noted same exact (λ e. (is, e)))
wrote old rows (Err write.NoMemory) new note reply same (noted, _) = (extends_same old new same, λ notes exact. stays old new note Short notes noted same exact (λ e. e))

answered : (old : LocalView) (after : ℕ) (query : Query) (result : Result Seen ReadRefusal) (new : LocalView) (note : Note) (reply : Response) → Reads old after query result new → TellsRead result note reply → Extends old new × Tallies old note new
answered old after query (Ok seen) new note reply (low, at, means, same) (noted, _) = (extends_same old new same, λ notes exact. stays old new note (Read seen.watermark) notes noted same exact (λ e. (at, e)))
answered old after query (Err (read.NotDrawn drawn)) new note reply (above, is, same) (noted, _) = (extends_same old new same, λ notes exact. stays old new note (NotDrawn drawn) notes noted same exact (λ e. (is, e)))
answered old after query (Err read.NoMemory) new note reply same (noted, _) = (extends_same old new same, λ notes exact. stays old new note Short notes noted same exact (λ e. e))

does : (a : Demand) (old : LocalView) (note : Note) (reply : Response) (new : LocalView) → Does Writes Reads Stands a old note reply new → Extends old new × Tallies old note new
does (asked.Write accepted) old note reply new (result, gives, tells) = wrote old accepted.batch.rows result new note reply gives tells
does (asked.Read query after) old note reply new (result, gives, tells) = answered old after query result new note reply gives tells
does asked.Stand old note reply new (stand, (drawn, synced, at, same), noted, _) =
    (extends_same old new same, λ notes exact. stays old new note (Stood stand.drawn stand.synced stand.watermark) notes noted same exact (λ e. (drawn, synced, at, e)))
does (asked.NotAllowed allow) old note reply new (same, noted, _) = (extends_same old new same, λ notes exact. stays old new note Refused notes noted same exact (λ e. e))
does (asked.Refused f) old note reply new (same, noted, _) = (extends_same old new same, λ notes exact. stays old new note Refused notes noted same exact (λ e. e))

handles : (request : Request) (old : LocalView) (note : Note) (reply : Response) (new : LocalView) → Handles Writes Reads Stands request old note reply new → Extends old new × Tallies old note new
handles request old note reply new (inl (a, asks, done)) = does a old note reply new done
handles request old note reply new (inr up) = (extends_same old new up.store, λ notes exact. stays old new note Short notes up.noted up.store exact (λ e. e))

run_tallies : (old : LocalView) (room : ℕ) (requests : List Request) (notes : List Note) (new : LocalView) (output : List ℕ) → Runs Writes Reads Stands old room requests notes new output → Extends old new × Exact (count_of old) notes
run_tallies old room [] [] new output run = (extends_same old new run.0, tt)
run_tallies old room [] (note ∷ notes) new output run = absurd run
run_tallies old room (request ∷ requests) [] new output run = absurd run
run_tallies old room (request ∷ requests) (note ∷ notes) new output (some, mid, first, rest, serves, run, whole) =
    let here = handles request old note serves.reply mid serves.handled in
    let later = run_tallies mid (room - 1) requests notes new rest run in
    (extends_on old mid new here.0 later.0, here.1 notes later.1)

-- what was written through the store behind what was added before
written_more : (old : LocalView) (opening added more : History) → opening ≡ old.opening → added ≡ old.added ++ more
    → numbered_from (length opening + 1) added ≡ numbered_from (length old.opening + 1) old.added ++ numbered_from (1 + count_of old) more
written_more old opening added more same gains =
    let count : length (old.opening ++ old.added) ≡ length old.opening + length old.added = length-append old.opening old.added in
    let next : length old.opening + 1 + length old.added ≡ 1 + count_of old = omega (arith, count) in
    ap (λ (o : History). numbered_from (length o + 1) added) same
    ∙ (ap (numbered_from (length old.opening + 1)) gains
    ∙ (numbered_more (length old.opening + 1) old.added more
    ∙ ap (λ (n : ℕ). numbered_from (length old.opening + 1) old.added ++ numbered_from n more) next))

pub alone_runs : (old : LocalView) (room : ℕ) (requests : List Request) (notes : List Note) (new : LocalView) (output : List ℕ) → Runs Writes Reads Stands old room requests notes new output → AloneRan old room requests notes new output
alone_runs old room requests notes new output run =
    let ran = runs Writes Reads Stands alone alone-write alone-read alone-stand old room requests notes new output run in
    let tallied = run_tallies old room requests notes new output run in
    let own : (alone old).own ++ ran.written ≡ (alone old).own ++ numbered_from (1 + count_of old) tallied.0.more =
    sym ran.own ∙ written_more old new.opening new.added tallied.0.more tallied.0.opening tallied.0.added in record {
      opening = tallied.0.opening;
      more = tallied.0.more;
      added = tallied.0.added;
      exact = tallied.1;
      accounts = subst (λ (ws : List Written). Accounts (history_of new) room requests notes ws output) (append_cancel_left (alone old).own ran.written (numbered_from (1 + count_of old) tallied.0.more) own) ran.accounts;
    }

pub alone_session : (old new : Streams) (first : LocalView) (notes : List Note) (last : LocalView) (end : EndKind)
    → Ends Writes Reads Stands old new first notes last end → AloneSessionRan old new first notes last end
alone_session old new first notes last end ends = record {
  requests = ends.requests;
  output = ends.output;
  read = ends.read;
  ran = alone_runs first MOST_REQUESTS ends.requests notes last ends.output ends.run;
  written = ends.written;
}
