-- A run folded: what each call of a store tells of the states before and after, and of what it leaves half done, told of a
-- whole run.
use Rattle.std.proofs.Common.{◌≡◌, ◌⊎◌, ℕ, ◌-◌, List, [], ◌∷◌, ◌++◌, Result, Ok, Err, refl, sym, subst, inl, inr}
use Rattle.fd_kinds.specs.declared.row.Row.{Row}
use Rattle.fd_kinds.specs.declared.query.Query.{Query}
use Rattle.fd_kinds.specs.declared.store.Seen.{Seen}
use Rattle.fd_kinds.specs.declared.stand.Stand as kinds
use Rattle.fd_kinds.specs.declared.store.WriteRefusal.{WriteRefusal}
use Rattle.fd_kinds.specs.declared.store.WriteRefusal.TheVariants as write
use Rattle.fd_kinds.specs.declared.store.ReadRefusal.{ReadRefusal}
use Rattle.fd_kinds.specs.declared.store.ReadRefusal.TheVariants as read
use Rattle.fd_kinds.specs.History.{History}
use Rattle.fd_http.specs.declared.request.Request.{Request}
use Rattle.fd_http.specs.declared.replies.Response.{Response}
use Rattle.fd_api.specs.declared.small_batch.SmallBatch.{SmallBatch}
use Rattle.fd_api.specs.declared.demand.Demand.{Demand}
use Rattle.fd_api.specs.declared.demand.Demand.TheVariants as asked
use Rattle.fd_api.specs.declared.note.Note.{Note}
use Rattle.fd_api.specs.declared.note.Note.TheVariants.{Read, Wrote, Stood, NotDrawn, Spent, Refused, Faulted, Short}
use Rattle.fd_api.specs.Demands.{Asks}
use Rattle.fd_api.specs.Effects.{TellsWrite, TellsRead, Does, Handles}
use Rattle.fd_api.specs.Sessions.{Runs}
use Rattle.fd_api.specs.Pending.{pending_write, PendsAt, Pends}

module _ {S : Type 0} (write_gives : S → List Row → Result ℕ WriteRefusal → S → Type 0) (read_gives : S → ℕ → Query → Result Seen ReadRefusal → S → Type 0) (stand_gives : S → kinds.Stand → S → Type 0)
    (Moves : S → S → History → Type 0)
    (stays : (s : S) → Moves s s [])
    (moves_on : (a b c : S) (first later : History) → Moves a b first → Moves b c later → Moves a c (first ++ later))
    (write_moves : (old : S) (rows : List Row) (result : Result ℕ WriteRefusal) (new : S) → write_gives old rows result new → Moves old new (pending_write rows result))
    (read_moves : (old : S) (after : ℕ) (query : Query) (result : Result Seen ReadRefusal) (new : S) → read_gives old after query result new → Moves old new [])
    (stand_moves : (old : S) (stand : kinds.Stand) (new : S) → stand_gives old stand new → Moves old new []) where
  -- one request, and what it leaves half done
  pub record Moved (request : Request) (old : S) (note : Note) (new : S) : Type 0 where
    pub here : History
    pub pends : PendsAt request note here
    pub moves : Moves old new here

  -- nothing is left half done
  whole : (request : Request) (old : S) (note noted : Note) (new : S) → note ≡ noted → PendsAt request noted [] → Moves old new [] → Moved request old note new
  whole request old note noted new is pends moves = record { here = []; pends = subst (λ (n : Note). PendsAt request n []) (sym is) pends; moves = moves }

  same : (old new : S) → new ≡ old → Moves old new []
  same old new is = subst (λ s. Moves old s []) (sym is) (stays old)

  wrote : (request : Request) (accepted : SmallBatch) (old : S) (result : Result ℕ WriteRefusal) (note : Note) (reply : Response) (new : S) → Asks request (asked.Write accepted)
      → Moves old new (pending_write accepted.batch.rows result) → TellsWrite result note reply → Moved request old note new
  wrote request accepted old (Ok n) note reply new asks moves tells = whole request old note (Wrote n) new tells.0 refl moves
  wrote request accepted old (Err write.DiskFault) note reply new asks moves tells =
      record { here = accepted.batch.rows ∷ []; pends = subst (λ (n : Note). PendsAt request n (accepted.batch.rows ∷ [])) (sym tells.0) (accepted, asks, refl); moves = moves }
  wrote request accepted old (Err (write.Spent drawn)) note reply new asks moves tells = whole request old note (Spent drawn) new tells.0 refl moves
  wrote request accepted old (Err write.NoMemory) note reply new asks moves tells = whole request old note Short new tells.0 refl moves

  answered : (request : Request) (old : S) (result : Result Seen ReadRefusal) (note : Note) (reply : Response) (new : S) → Moves old new [] → TellsRead result note reply → Moved request old note new
  answered request old (Ok seen) note reply new moves tells = whole request old note (Read seen.watermark) new tells.0 refl moves
  answered request old (Err (read.NotDrawn drawn)) note reply new moves tells = whole request old note (NotDrawn drawn) new tells.0 refl moves
  answered request old (Err read.NoMemory) note reply new moves tells = whole request old note Short new tells.0 refl moves

  does : (request : Request) (a : Demand) (old : S) (note : Note) (reply : Response) (new : S) → Asks request a → Does write_gives read_gives stand_gives a old note reply new → Moved request old note new
  does request (asked.Write accepted) old note reply new asks (result, gives, tells) = wrote request accepted old result note reply new asks (write_moves old accepted.batch.rows result new gives) tells
  does request (asked.Read query after) old note reply new asks (result, gives, tells) = answered request old result note reply new (read_moves old after query result new gives) tells
  does request asked.Stand old note reply new asks (stand, gives, noted, replied) = whole request old note (Stood stand.drawn stand.synced stand.watermark) new noted refl (stand_moves old stand new gives)
  does request (asked.NotAllowed allow) old note reply new asks (is, noted, replied) = whole request old note Refused new noted refl (same old new is)
  does request (asked.Refused f) old note reply new asks (is, noted, replied) = whole request old note Refused new noted refl (same old new is)

  handles : (request : Request) (old : S) (note : Note) (reply : Response) (new : S) → Handles write_gives read_gives stand_gives request old note reply new → Moved request old note new
  handles request old note reply new (inl (a, asks, done)) = does request a old note reply new asks done
  handles request old note reply new (inr up) = whole request old note Short new up.noted refl (same old new up.store)

  -- a whole run, and what it leaves half done
  pub record MovedOver (requests : List Request) (old : S) (notes : List Note) (new : S) : Type 0 where
    pub waiting : History
    pub pends : Pends requests notes waiting
    pub moves : Moves old new waiting

  pub runs_move : (old : S) (room : ℕ) (requests : List Request) (notes : List Note) (new : S) (output : List ℕ)
      → Runs write_gives read_gives stand_gives old room requests notes new output → MovedOver requests old notes new
  runs_move old room [] [] new output (is, nothing) = record { waiting = []; pends = refl; moves = same old new is }
  runs_move old room [] (note ∷ notes) new output run = absurd run
  runs_move old room (request ∷ requests) [] new output run = absurd run
  runs_move old room (request ∷ requests) (note ∷ notes) new output (some, mid, first, rest, serves, run, all) =
      let one = handles request old note serves.reply mid serves.handled in
      let more = runs_move mid (room - 1) requests notes new rest run in
      record {
        waiting = one.here ++ more.waiting;
        pends = (one.here, more.waiting, one.pends, more.pends, refl);
        moves = moves_on old mid new one.here more.waiting one.moves more.moves;
      }
