-- What a whole run tells, by induction over its requests.
use Rattle.std.proofs.Common.{◌≡◌, ℕ, zero, suc, ◌+◌, ◌-◌, ◌≤◌, List, [], ◌∷◌, ◌++◌, length, take, flat_map, Result, Ok, Err, refl, sym, ap, ◌∙◌, subst, arith, append_assoc, length-append, inl, inr}
use Rattle.std.proofs.lemmas.List.{append-nil}
use Rattle.fd_kinds.specs.declared.row.Row.{Row}
use Rattle.fd_kinds.specs.Meaning.{meaning}
use Rattle.fd_kinds.specs.History.{History, upto}
use Rattle.fd_kinds.specs.declared.query.Query.{Query}
use Rattle.fd_kinds.specs.declared.store.WriteRefusal.{WriteRefusal}
use Rattle.fd_kinds.specs.declared.store.WriteRefusal.TheVariants as write
use Rattle.fd_kinds.specs.declared.store.ReadRefusal.{ReadRefusal}
use Rattle.fd_kinds.specs.declared.store.ReadRefusal.TheVariants as read
use Rattle.fd_kinds.specs.declared.store.Seen.{Seen}
use Rattle.fd_kinds.specs.declared.stand.Stand as kinds
use Rattle.fd_kinds.specs.Stores.{Grows, Written, StoreView, Holds, WriteFacts, ReadFacts, StandFacts}
use Rattle.fd_api.specs.declared.small_batch.SmallBatch.{SmallBatch}
use Rattle.fd_api.specs.declared.demand.Demand.{Demand}
use Rattle.fd_api.specs.declared.demand.Demand.TheVariants as asked
use Rattle.fd_http.specs.declared.limits.TheConstants.{MOST_REQUESTS}
use Rattle.fd_http.specs.declared.request.Request.{Request}
use Rattle.fd_http.specs.declared.replies.Response.{Response}
use Rattle.fd_api.specs.declared.note.Note.{Note}
use Rattle.fd_api.specs.declared.note.Note.TheVariants.{Read, Wrote, Stood, NotDrawn, Spent, Refused, Faulted, Short}
use Rattle.fd_api.specs.Replies.{IsReply, answer_reply, stand_reply}
use Rattle.fd_api.specs.Demands.{Asks}
use Rattle.fd_api.specs.Effects.{TellsWrite, TellsRead, Does, Handles}
use Rattle.fd_api.specs.Sessions.{Runs, Ends}
use Rattle.fd_api.specs.declared.sessions.EndKind.{EndKind}
use Rattle.fd_api.specs.Streams.{Streams}
use Rattle.fd_api.specs.Accounts.{Says, Fits, AllRise, Climb, Ran, SessionRan}

-- the first batches stay when more come behind them
take_front : {A : Type 0} (w : ℕ) (xs ys : List A) → w ≤ length xs → take w (xs ++ ys) ≡ take w xs
take_front zero [] ys le = refl
take_front zero (x ∷ xs) ys le = refl
take_front (suc w) [] ys le = absurd (omega arith)
take_front (suc w) (x ∷ xs) ys le = ap (λ l. x ∷ l) (take_front w xs ys (omega arith))

pub upto_grown : (old new : History) (w : ℕ) → Grows old new → w ≤ length old → upto new w ≡ upto old w
upto_grown old new w grown le = ap (flat_map (λ batch. batch)) (ap (take w) grown.joined ∙ take_front w old grown.more le)

longer : (old new : History) → Grows old new → length old ≤ length new
longer old new grown = let e : length new ≡ length old + length grown.more = ap length grown.joined ∙ length-append old grown.more in omega arith

grows_on : (a b c : History) → Grows a b → Grows b c → Grows a c
grows_on a b c f g = record { more = f.more ++ g.more; joined = g.joined ∙ (ap (λ l. l ++ g.more) f.joined ∙ append_assoc a f.more g.more) }

-- what a note says of a history, it says of each that begins with it
pub says_on : (old new : History) (asked : Demand) (note : Note) (reply : Response) (written : List Written) → Grows old new → Says old asked note reply written → Says new asked note reply written
says_on old new asked (Wrote n) reply written grown says = says
says_on old new asked (Read w) reply written grown (query, after, is, low, high, replied, none) =
    let same : upto new w ≡ upto old w = upto_grown old new w grown high in let more = longer old new grown in
    (query, after, is, low, omega (arith, high, more), subst (λ rows. IsReply (answer_reply (meaning query rows) w) reply) (sym same) replied, none)
says_on old new asked (Stood drawn synced w) reply written grown says = says
says_on old new asked (NotDrawn drawn) reply written grown says = says
says_on old new asked (Spent drawn) reply written grown says = says
says_on old new asked Refused reply written grown says = says
says_on old new asked Faulted reply written grown says = says
says_on old new asked Short reply written grown says = says

fits_on : (old new : History) (request : Request) (note : Note) (reply : Response) (written : List Written) → Grows old new → Fits old request note reply written → Fits new request note reply written
fits_on old new request note reply written grown (inl (asked, asks, says)) = inl (asked, asks, says_on old new asked note reply written grown says)
fits_on old new request note reply written grown (inr up) = inr up

-- batches that rise behind what was written, and more behind them
all_rise_on : (own xs ys : List Written) → AllRise own xs → AllRise (own ++ xs) ys → AllRise own (xs ++ ys)
all_rise_on own [] ys rise more = subst (λ (l : List Written). AllRise l ys) (append-nil own) more
all_rise_on own (x ∷ xs) ys (top, rise) more = (top, all_rise_on (own ++ x ∷ []) xs ys rise (subst (λ (l : List Written). AllRise l ys) (sym (append_assoc own (x ∷ []) xs)) more))

-- watermarks that climb from a higher one climb from a lower one
climb_down : (low high : ℕ) (notes : List Note) (now : ℕ) → low ≤ high → Climb high notes now → Climb low notes now
climb_down low high [] now below climb = omega (arith, below, climb)
climb_down low high (Wrote n ∷ notes) now below climb = climb_down low high notes now below climb
climb_down low high (Read w ∷ notes) now below (at, climb) = (omega (arith, below, at), climb)
climb_down low high (Stood drawn synced w ∷ notes) now below (at, climb) = (omega (arith, below, at), climb)
climb_down low high (NotDrawn drawn ∷ notes) now below (at, climb) = (omega (arith, below, at), climb_down low high notes now below climb)
climb_down low high (Spent drawn ∷ notes) now below (at, climb) = (omega (arith, below, at), climb_down low high notes now below climb)
climb_down low high (Refused ∷ notes) now below climb = climb_down low high notes now below climb
climb_down low high (Faulted ∷ notes) now below climb = climb_down low high notes now below climb
climb_down low high (Short ∷ notes) now below climb = climb_down low high notes now below climb

-- what one note tells of the least watermarks before and after it
abbrev Climbs : ℕ → Note → ℕ → Type 0
Climbs least note next = (notes : List Note) (now : ℕ) → Climb next notes now → Climb least (note ∷ notes) now

-- one request: what it does to what the store is seen as, and what its note says
pub record Handled (old : StoreView) (request : Request) (note : Note) (reply : Response) (new : StoreView) : Type 0 where
  pub grows : Grows old.history new.history
  pub written : List Written
  pub own : new.own ≡ old.own ++ written
  pub rises : AllRise old.own written
  pub climbs : Climbs old.least note new.least
  pub holds : Holds old.history old.own → Holds new.history new.own
  pub fits : Fits new.history request note reply written

grows_same : (history : History) → Grows history history
grows_same history = record { more = []; joined = sym (append-nil history) }

unmoved : (old new : StoreView) (request : Request) (note : Note) (reply : Response) → new ≡ old → Climbs old.least note old.least → Fits old.history request note reply [] → Handled old request note reply new
unmoved old new request note reply same climbs fits = subst (λ (v : StoreView). Handled old request note reply v) (sym same)
    record { grows = grows_same old.history; written = []; own = sym (append-nil old.own); rises = tt; climbs = climbs; holds = λ held. held; fits = fits }

module _ {S : Type 0} (write_gives : S → List Row → Result ℕ WriteRefusal → S → Type 0) (read_gives : S → ℕ → Query → Result Seen ReadRefusal → S → Type 0) (stand_gives : S → kinds.Stand → S → Type 0)
    (sees : S → StoreView)
    (write_law : (old : S) (rows : List Row) (result : Result ℕ WriteRefusal) (new : S) → write_gives old rows result new → WriteFacts (sees old) rows result (sees new))
    (read_law : (old : S) (after : ℕ) (query : Query) (result : Result Seen ReadRefusal) (new : S) → read_gives old after query result new → ReadFacts (sees old) after query result (sees new))
    (stand_law : (old : S) (stand : kinds.Stand) (new : S) → stand_gives old stand new → StandFacts (sees old) stand (sees new)) where
  wrote : (old new : StoreView) (request : Request) (accepted : SmallBatch) (result : Result ℕ WriteRefusal) (note : Note) (reply : Response) → Asks request (asked.Write accepted)
      → WriteFacts old accepted.batch.rows result new → TellsWrite result note reply → Handled old request note reply new
  wrote old new request accepted (Ok n) note reply is facts (noted, replied) = subst (λ (m : Note). Handled old request m reply new) (sym noted) record {
    grows = facts.grows;
    written = record { number = n; rows = accepted.batch.rows } ∷ [];
    own = facts.own;
    rises = (facts.rises, tt);
    climbs = λ notes now climb. climb_down old.least new.least notes now facts.least climb;
    holds = facts.holds;
    fits = inl (asked.Write accepted, is, (accepted, refl, replied, refl));
  }
  wrote old new request accepted (Err write.DiskFault) note reply is facts (noted, replied) = subst (λ (m : Note). Handled old request m reply new) (sym noted) record {
    grows = facts.grows;
    written = [];
    own = facts.own ∙ sym (append-nil old.own);
    rises = tt;
    climbs = λ notes now climb. climb_down old.least new.least notes now facts.least climb;
    holds = facts.holds;
    fits = inl (asked.Write accepted, is, (accepted, refl, replied, refl));
  }
  wrote old new request accepted (Err (write.Spent drawn)) note reply is facts (noted, replied) = subst (λ (m : Note). Handled old request m reply new) (sym noted) record {
    grows = facts.grows;
    written = [];
    own = facts.own ∙ sym (append-nil old.own);
    rises = tt;
    climbs = λ notes now climb. (facts.spent.1, climb_down old.least new.least notes now facts.least climb);
    holds = facts.holds;
    fits = inl (asked.Write accepted, is, (accepted, refl, facts.spent.0, replied, refl));
  }
  wrote old new request accepted (Err write.NoMemory) note reply is facts (noted, replied) = subst (λ (m : Note). Handled old request m reply new) (sym noted) record {
    grows = facts.grows;
    written = [];
    own = facts.own ∙ sym (append-nil old.own);
    rises = tt;
    climbs = λ notes now climb. climb_down old.least new.least notes now facts.least climb;
    holds = facts.holds;
    fits = inl (asked.Write accepted, is, (replied, refl));
  }

  answered : (old new : StoreView) (request : Request) (query : Query) (after : ℕ) (result : Result Seen ReadRefusal) (note : Note) (reply : Response) → Asks request (asked.Read query after)
      → ReadFacts old after query result new → TellsRead result note reply → Handled old request note reply new
  answered old new request query after (Ok seen) note reply is facts (noted, replied) = let (low, high, means) = facts.answers in subst (λ (m : Note). Handled old request m reply new) (sym noted) record {
    grows = facts.grows;
    written = [];
    own = facts.own ∙ sym (append-nil old.own);
    rises = tt;
    climbs = λ notes now climb. (facts.climbs.0, climb_down seen.watermark new.least notes now facts.climbs.1 climb);
    holds = facts.holds;
    fits = inl (asked.Read query after, is, (query, after, refl, low, high, subst (λ answer. IsReply (answer_reply answer seen.watermark) reply) means replied, refl));
  }
  answered old new request query after (Err (read.NotDrawn drawn)) note reply is facts (noted, replied) = subst (λ (m : Note). Handled old request m reply new) (sym noted) record {
    grows = facts.grows;
    written = [];
    own = facts.own ∙ sym (append-nil old.own);
    rises = tt;
    climbs = λ notes now climb. (facts.answers.1, climb_down old.least new.least notes now facts.climbs climb);
    holds = facts.holds;
    fits = inl (asked.Read query after, is, (query, after, refl, facts.answers.0, replied, refl));
  }
  answered old new request query after (Err read.NoMemory) note reply is facts (noted, replied) = subst (λ (m : Note). Handled old request m reply new) (sym noted) record {
    grows = facts.grows;
    written = [];
    own = facts.own ∙ sym (append-nil old.own);
    rises = tt;
    climbs = λ notes now climb. climb_down old.least new.least notes now facts.climbs climb;
    holds = facts.holds;
    fits = inl (asked.Read query after, is, (replied, refl));
  }

  stood : (old new : StoreView) (request : Request) (stand : kinds.Stand) (note : Note) (reply : Response) → Asks request asked.Stand
      → StandFacts old stand new → note ≡ Stood stand.drawn stand.synced stand.watermark → IsReply (stand_reply stand) reply → Handled old request note reply new
  stood old new request stand note reply is facts noted replied = subst (λ (m : Note). Handled old request m reply new) (sym noted) record {
    grows = facts.grows;
    written = [];
    own = facts.own ∙ sym (append-nil old.own);
    rises = tt;
    climbs = λ notes now climb. (facts.least, climb_down stand.watermark new.least notes now facts.kept climb);
    holds = facts.holds;
    fits = inl (asked.Stand, is, (refl, facts.synced, facts.drawn, replied, refl));
  }

  does : (request : Request) (a : Demand) (old : S) (note : Note) (reply : Response) (new : S) → Asks request a → Does write_gives read_gives stand_gives a old note reply new → Handled (sees old) request note reply (sees new)
  does request (asked.Write accepted) old note reply new is (result, gives, tells) = wrote (sees old) (sees new) request accepted result note reply is (write_law old accepted.batch.rows result new gives) tells
  does request (asked.Read query after) old note reply new is (result, gives, tells) = answered (sees old) (sees new) request query after result note reply is (read_law old after query result new gives) tells
  does request asked.Stand old note reply new is (stand, gives, noted, replied) = stood (sees old) (sees new) request stand note reply is (stand_law old stand new gives) noted replied
  does request (asked.NotAllowed allow) old note reply new is (same, noted, replied) = unmoved (sees old) (sees new) request note reply (ap sees same)
      (subst (λ (m : Note). Climbs (sees old).least m (sees old).least) (sym noted) (λ notes now climb. climb))
      (subst (λ (m : Note). Fits (sees old).history request m reply []) (sym noted) (inl (asked.NotAllowed allow, is, (inl (allow, refl, replied), refl))))
  does request (asked.Refused f) old note reply new is (same, noted, replied) = unmoved (sees old) (sees new) request note reply (ap sees same)
      (subst (λ (m : Note). Climbs (sees old).least m (sees old).least) (sym noted) (λ notes now climb. climb))
      (subst (λ (m : Note). Fits (sees old).history request m reply []) (sym noted) (inl (asked.Refused f, is, (inr (f, refl, replied), refl))))

  handles : (request : Request) (old : S) (note : Note) (reply : Response) (new : S) → Handles write_gives read_gives stand_gives request old note reply new → Handled (sees old) request note reply (sees new)
  handles request old note reply new (inl (a, asks, done)) = does request a old note reply new asks done
  handles request old note reply new (inr up) = unmoved (sees old) (sees new) request note reply (ap sees up.store)
      (subst (λ (m : Note). Climbs (sees old).least m (sees old).least) (sym up.noted) (λ notes now climb. climb))
      (inr (up.noted, up.replied, refl))

  pub runs : (old : S) (room : ℕ) (requests : List Request) (notes : List Note) (new : S) (output : List ℕ)
      → Runs write_gives read_gives stand_gives old room requests notes new output → Ran (sees old) room requests notes (sees new) output
  runs old room [] [] new output (same, nothing) = subst (λ (v : StoreView). Ran (sees old) room [] [] v output) (sym (ap sees same))
      record { grows = grows_same (sees old).history; written = []; own = sym (append-nil (sees old).own); rises = tt; climbs = omega arith; holds = λ held. held; accounts = (refl, nothing) }
  runs old room [] (note ∷ notes) new output run = absurd run
  runs old room (request ∷ requests) [] new output run = absurd run
  runs old room (request ∷ requests) (note ∷ notes) new output (some, mid, first, rest, serves, run, whole) =
      let here = handles request old note serves.reply mid serves.handled in
      let later = runs mid (room - 1) requests notes new rest run in record {
        grows = grows_on (sees old).history (sees mid).history (sees new).history here.grows later.grows;
        written = here.written ++ later.written;
        own = later.own ∙ (ap (λ (l : List Written). l ++ later.written) here.own ∙ append_assoc (sees old).own here.written later.written);
        rises = all_rise_on (sees old).own here.written later.written here.rises (subst (λ (l : List Written). AllRise l later.written) here.own later.rises);
        climbs = here.climbs notes (sees new).least later.climbs;
        holds = λ held. later.holds (here.holds held);
        accounts = (
          serves.reply,
          here.written,
          later.written,
          first,
          rest,
          fits_on (sees mid).history (sees new).history request note serves.reply here.written later.grows here.fits,
          serves.sent,
          later.accounts,
          refl,
          whole,
        );
      }

  pub session : (old new : Streams) (first : S) (notes : List Note) (last : S) (end : EndKind)
      → Ends write_gives read_gives stand_gives old new first notes last end → SessionRan old new (sees first) notes (sees last) end
  session old new first notes last end ends = record {
    requests = ends.requests;
    output = ends.output;
    read = ends.read;
    ran = runs first MOST_REQUESTS ends.requests notes last ends.output ends.run;
    written = ends.written;
  }
