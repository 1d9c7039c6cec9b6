-- What a run leaves half done: the batches of the writes in which the disk failed, which it may hold or not.
use Rattle.std.specs.Prelude.{◌≡◌, ℕ, List, [], ◌∷◌, ◌++◌, Result, Ok, Err}
use Rattle.fd_kinds.specs.declared.row.Row.{Row}
use Rattle.fd_kinds.specs.declared.store.WriteRefusal.{WriteRefusal}
use Rattle.fd_kinds.specs.declared.store.WriteRefusal.TheVariants as write
use Rattle.fd_kinds.specs.History.{History}
use Rattle.fd_http.specs.declared.request.Request.{Request}
use Rattle.fd_api.specs.declared.small_batch.SmallBatch.{SmallBatch}
use Rattle.fd_api.specs.declared.demand.Demand.TheVariants as asked
use Rattle.fd_api.specs.declared.note.Note.{Note}
use Rattle.fd_api.specs.declared.note.Note.TheVariants.{Read, Wrote, Stood, NotDrawn, Spent, Refused, Faulted, Short}
use Rattle.fd_api.specs.Demands.{Asks}

-- by what the store answered to a write
abbrev pub pending_write : List Row → Result ℕ WriteRefusal → History
pending_write rows (Ok number) = []
pending_write rows (Err write.DiskFault) = rows ∷ []
pending_write rows (Err (write.Spent drawn)) = []
pending_write rows (Err write.NoMemory) = []

-- by the note of a request
abbrev pub PendsAt : Request → Note → History → Type 0
PendsAt request (Read w) here = here ≡ []
PendsAt request (Wrote n) here = here ≡ []
PendsAt request (Stood drawn synced w) here = here ≡ []
PendsAt request (NotDrawn drawn) here = here ≡ []
PendsAt request (Spent drawn) here = here ≡ []
PendsAt request Refused here = here ≡ []
PendsAt request Faulted here = (accepted : SmallBatch) × Asks request (asked.Write accepted) × (here ≡ accepted.batch.rows ∷ [])
PendsAt request Short here = here ≡ []

-- by the notes of a run, in order
abbrev pub Pends : List Request → List Note → History → Type 0
Pends [] [] waiting = waiting ≡ []
Pends (request ∷ requests) (note ∷ notes) waiting =
    (here : History) × (rest : History) × PendsAt request note here × Pends requests notes rest × (waiting ≡ here ++ rest)
Pends [] (note ∷ notes) waiting = ⊥
Pends (request ∷ requests) [] waiting = ⊥
