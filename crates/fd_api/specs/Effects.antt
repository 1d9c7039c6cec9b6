-- What handling a request does to a store: by what was asked, the note of it and the reply.
use Rattle.std.specs.Prelude.{◌≡◌, ℕ, List, Result, Ok, Err, ◌⊎◌}
use Rattle.fd_kinds.specs.declared.row.Row.{Row}
use Rattle.fd_kinds.specs.declared.query.Query.{Query}
use Rattle.fd_kinds.specs.declared.store.Seen.{Seen}
use Rattle.fd_kinds.specs.declared.stand.Stand as kinds
use Rattle.fd_kinds.specs.declared.store.WriteRefusal.{WriteRefusal}
use Rattle.fd_kinds.specs.declared.store.WriteRefusal.TheVariants as write
use Rattle.fd_kinds.specs.declared.store.ReadRefusal.{ReadRefusal}
use Rattle.fd_kinds.specs.declared.store.ReadRefusal.TheVariants as read
use Rattle.fd_http.specs.declared.request.Request.{Request}
use Rattle.fd_http.specs.declared.replies.Response.{Response}
use Rattle.fd_json.specs.declared.refusal.Fault.TheVariants as fault
use Rattle.fd_api.specs.declared.demand.Demand.{Demand}
use Rattle.fd_api.specs.declared.demand.Demand.TheVariants as asked
use Rattle.fd_api.specs.declared.note.Note.{Note}
use Rattle.fd_api.specs.declared.note.Note.TheVariants.{Read, Wrote, Stood, NotDrawn, Spent, Refused, Faulted, Short}
use Rattle.fd_api.specs.Demands.{Asks}
use Rattle.fd_api.specs.Replies.{IsReply, refusal, not_allowed, number_reply, answer_reply, stand_reply, short}

-- by what the store answered to a write
abbrev pub TellsWrite : Result ℕ WriteRefusal → Note → Response → Type 0
TellsWrite (Ok n) note reply = (note ≡ Wrote n) × IsReply (number_reply n) reply
TellsWrite (Err write.DiskFault) note reply = (note ≡ Faulted) × IsReply (refusal fault.DiskFault) reply
TellsWrite (Err (write.Spent drawn)) note reply = (note ≡ Spent drawn) × IsReply (refusal (fault.Spent drawn)) reply
TellsWrite (Err write.NoMemory) note reply = (note ≡ Short) × (reply ≡ short)

-- by what the store answered to a query
abbrev pub TellsRead : Result Seen ReadRefusal → Note → Response → Type 0
TellsRead (Ok seen) note reply = (note ≡ Read seen.watermark) × IsReply (answer_reply seen.answer seen.watermark) reply
TellsRead (Err (read.NotDrawn drawn)) note reply = (note ≡ NotDrawn drawn) × IsReply (refusal (fault.NotDrawn drawn)) reply
TellsRead (Err read.NoMemory) note reply = (note ≡ Short) × (reply ≡ short)

module _ {S : Type 0} (write_gives : S → List Row → Result ℕ WriteRefusal → S → Type 0) (read_gives : S → ℕ → Query → Result Seen ReadRefusal → S → Type 0) (stand_gives : S → kinds.Stand → S → Type 0) where
  -- what was done for what was asked, from one state of the store to the next
  abbrev pub Does : Demand → S → Note → Response → S → Type 0
  Does (asked.Write accepted) old note reply new = (result : Result ℕ WriteRefusal) × write_gives old accepted.batch.rows result new × TellsWrite result note reply
  Does (asked.Read query after) old note reply new = (result : Result Seen ReadRefusal) × read_gives old after query result new × TellsRead result note reply
  Does asked.Stand old note reply new = (stand : kinds.Stand) × stand_gives old stand new × (note ≡ Stood stand.drawn stand.synced stand.watermark) × IsReply (stand_reply stand) reply
  Does (asked.NotAllowed allow) old note reply new = (new ≡ old) × (note ≡ Refused) × IsReply (not_allowed allow) reply
  Does (asked.Refused f) old note reply new = (new ≡ old) × (note ≡ Refused) × IsReply (refusal f) reply

  -- memory was wanting before anything was done
  pub record GivesUp (old : S) (note : Note) (reply : Response) (new : S) : Type 0 where
    pub store : new ≡ old
    pub noted : note ≡ Short
    pub replied : reply ≡ short

  abbrev pub Handles : Request → S → Note → Response → S → Type 0
  Handles request old note reply new = ((asked : Demand) × Asks request asked × Does asked old note reply new) ⊎ GivesUp old note reply new
