-- What a whole run tells, from what any store tells of its calls: of the history, of what was written, and of each note.
use Rattle.std.specs.Prelude.{◌≡◌, ◌⊎◌, ℕ, ◌-◌, ◌<◌, ◌≤◌, List, [], ◌∷◌, ◌++◌, length}
use Rattle.fd_kinds.specs.declared.query.Query.{Query}
use Rattle.fd_kinds.specs.History.{History, upto}
use Rattle.fd_kinds.specs.declared.limits.TheConstants.{MOST_NUMBERS}
use Rattle.fd_kinds.specs.Meaning.{meaning}
use Rattle.fd_kinds.specs.Stores.{Grows, Written, StoreView, Holds, Tops}
use Rattle.fd_api.specs.declared.small_batch.SmallBatch.{SmallBatch}
use Rattle.fd_api.specs.declared.demand.Demand.{Demand}
use Rattle.fd_api.specs.declared.demand.Demand.TheVariants as asked
use Rattle.fd_http.specs.declared.limits.TheConstants.{MOST_REQUESTS}
use Rattle.fd_http.specs.declared.request.Request.{Request}
use Rattle.fd_http.specs.declared.replies.Response.{Response}
use Rattle.fd_http.specs.declared.replies.Method.{Method}
use Rattle.fd_json.specs.declared.refusal.Fault.{Fault}
use Rattle.fd_json.specs.declared.refusal.Fault.TheVariants as fault
use Rattle.fd_api.specs.declared.note.Note.{Note}
use Rattle.fd_api.specs.declared.note.Note.TheVariants.{Read, Wrote, Stood, NotDrawn, Spent, Refused, Faulted, Short}
use Rattle.fd_api.specs.Demands.{Asks}
use Rattle.fd_api.specs.Replies.{IsReply, IsSent, refusal, not_allowed, number_reply, answer_reply, stand_reply, short}
use Rattle.fd_api.specs.Streams.{Streams}
use Rattle.fd_api.specs.declared.sessions.EndKind.{EndKind}
use Rattle.fd_api.specs.Sessions.{is_last, ReadBy, SentBy}

-- What a note says of what was asked, over the history in the end: the reply, and what was written for it.
abbrev pub Says : History → Demand → Note → Response → List Written → Type 0
Says history a (Wrote n) reply written =
    (accepted : SmallBatch) × (a ≡ asked.Write accepted) × IsReply (number_reply n) reply × (written ≡ record { number = n; rows = accepted.batch.rows } ∷ [])
Says history a (Read w) reply written =
    (query : Query) × (after : ℕ) × (a ≡ asked.Read query after) × (after ≤ w) × (w ≤ length history)
    × IsReply (answer_reply (meaning query (upto history w)) w) reply × (written ≡ [])
Says history a (Stood drawn synced w) reply written =
    (a ≡ asked.Stand) × (synced ≤ w) × (w ≤ drawn) × IsReply (stand_reply (record { drawn = drawn; synced = synced; watermark = w })) reply × (written ≡ [])
Says history a (NotDrawn drawn) reply written = (query : Query) × (after : ℕ) × (a ≡ asked.Read query after) × (drawn < after) × IsReply (refusal (fault.NotDrawn drawn)) reply × (written ≡ [])
Says history a (Spent drawn) reply written = (accepted : SmallBatch) × (a ≡ asked.Write accepted) × (MOST_NUMBERS ≤ drawn) × IsReply (refusal (fault.Spent drawn)) reply × (written ≡ [])
Says history a Refused reply written = (((allow : Method) × (a ≡ asked.NotAllowed allow) × IsReply (not_allowed allow) reply) ⊎ ((f : Fault) × (a ≡ asked.Refused f) × IsReply (refusal f) reply)) × (written ≡ [])
Says history a Faulted reply written = (accepted : SmallBatch) × (a ≡ asked.Write accepted) × IsReply (refusal fault.DiskFault) reply × (written ≡ [])
Says history a Short reply written = (reply ≡ short) × (written ≡ [])

-- what was asked and its note, or want of memory before that was known
abbrev pub Fits : History → Request → Note → Response → List Written → Type 0
Fits history request note reply written = ((a : Demand) × Asks request a × Says history a note reply written) ⊎ ((note ≡ Short) × (reply ≡ short) × (written ≡ []))

-- Requests in order, each with its note: what was written for them, in order, and the bytes sent.
abbrev pub Accounts : History → ℕ → List Request → List Note → List Written → List ℕ → Type 0
Accounts history room [] [] written output = (written ≡ []) × (output ≡ [])
Accounts history room (request ∷ requests) (note ∷ notes) written output =
    (reply : Response) × (here : List Written) × (rest : List Written) × (first : List ℕ) × (more : List ℕ)
    × Fits history request note reply here
    × IsSent (is_last room request note) reply first
    × Accounts history (room - 1) requests notes rest more
    × (written ≡ here ++ rest) × (output ≡ first ++ more)
Accounts history room [] (note ∷ notes) written output = ⊥
Accounts history room (request ∷ requests) [] written output = ⊥

-- the number of each batch is above those of what was written before it
abbrev pub AllRise : List Written → List Written → Type 0
AllRise own [] = Unit {0}
AllRise own (first ∷ rest) = Tops first.number own × AllRise (own ++ first ∷ []) rest

-- Told watermarks never fall, from the least one that a query may have been answered at before the notes to the one after
-- them. Counts of drawn numbers that refuse are not below a watermark told before.
abbrev pub Climb : ℕ → List Note → ℕ → Type 0
Climb least [] now = least ≤ now
Climb least (Wrote n ∷ notes) now = Climb least notes now
Climb least (Read w ∷ notes) now = (least ≤ w) × Climb w notes now
Climb least (Stood drawn synced w ∷ notes) now = (least ≤ w) × Climb w notes now
Climb least (NotDrawn drawn ∷ notes) now = (least ≤ drawn) × Climb least notes now
Climb least (Spent drawn ∷ notes) now = (least ≤ drawn) × Climb least notes now
Climb least (Refused ∷ notes) now = Climb least notes now
Climb least (Faulted ∷ notes) now = Climb least notes now
Climb least (Short ∷ notes) now = Climb least notes now

-- A run over a store: its history only grows, what was written through it gains exactly the batches of the notes, in
-- order and under rising numbers, at which they stand in the history in the end where it reaches them, told watermarks
-- never fall, and each note fits the history in the end.
pub record Ran (old : StoreView) (room : ℕ) (requests : List Request) (notes : List Note) (new : StoreView) (output : List ℕ) : Type 0 where
  pub grows : Grows old.history new.history
  pub written : List Written
  pub own : new.own ≡ old.own ++ written
  pub rises : AllRise old.own written
  pub climbs : Climb old.least notes new.least
  pub holds : Holds old.history old.own → Holds new.history new.own
  pub accounts : Accounts new.history room requests notes written output

-- A session over a store: the requests that it read, what became of the store by them, and what was sent.
pub record SessionRan (old new : Streams) (first : StoreView) (notes : List Note) (last : StoreView) (end : EndKind) : Type 0 where
  pub requests : List Request
  pub output : List ℕ
  pub read : ReadBy old.input new.input end requests
  pub ran : Ran first MOST_REQUESTS requests notes last output
  pub written : SentBy old new end requests output
