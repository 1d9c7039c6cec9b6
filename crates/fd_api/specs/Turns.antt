-- One turn of a session: what reading, handling and replying once leaves, and whether the session ends with it.
use Rattle.std.specs.Prelude.{◌≡◌, ℕ, ◌⊎◌, ◌||◌, Bool, true, if◌then◌else◌, List, [], ◌∷◌, ◌++◌, Option, Some, None, Result, Ok, Err}
use Rattle.std.specs.Io.KnownBytes.{Keeps, Appends}
use Rattle.fd_lists.specs.Counts.{Rose}
use Rattle.fd_kinds.specs.declared.row.Row.{Row}
use Rattle.fd_kinds.specs.declared.query.Query.{Query}
use Rattle.fd_kinds.specs.declared.store.Seen.{Seen}
use Rattle.fd_kinds.specs.declared.stand.Stand.{Stand}
use Rattle.fd_kinds.specs.declared.store.WriteRefusal.{WriteRefusal}
use Rattle.fd_kinds.specs.declared.store.ReadRefusal.{ReadRefusal}
use Rattle.fd_http.specs.declared.request.Request.{Request}
use Rattle.fd_http.specs.declared.request.Arrived.{Arrived}
use Rattle.fd_http.specs.declared.request.Arrived.TheVariants as arrived
use Rattle.fd_http.specs.declared.request.RequestFault.{RequestFault}
use Rattle.fd_http.specs.declared.request.RequestFault.TheVariants as head
use Rattle.fd_http.specs.declared.replies.Response.TheVariants as response
use Rattle.fd_http.specs.Arrivals.{Arrives, AtReadFault, IsUnfinished}
use Rattle.fd_http.specs.Inputs.{Begins}
use Rattle.fd_http.specs.Remainders.{Given, Paced}
use Rattle.fd_http.specs.Replies.{AppendsFront, reply_bytes}
use Rattle.fd_device.specs.declared.sink.Put.{Put}
use Rattle.fd_device.specs.declared.sink.Put.TheVariants.{Done, Failed}
use Rattle.fd_device.specs.Streams.{PutCause}
use Rattle.fd_json.specs.declared.refusal.Fault.{Fault}
use Rattle.fd_json.specs.declared.refusal.Fault.TheVariants as fault
use Rattle.fd_api.specs.declared.note.Note.{Note}
use Rattle.fd_api.specs.declared.sessions.EndKind.{EndKind}
use Rattle.fd_api.specs.declared.sessions.EndKind.TheVariants as kind
use Rattle.fd_api.specs.Replies.{IsSent, refusal}
use Rattle.fd_api.specs.Sessions.{Serves, is_faulted}
use Rattle.fd_api.specs.Streams.{Stream, Streams}

-- the bytes of a reply were taken, or a front of them
abbrev pub PutsReply : Option (List ℕ) → Option (List ℕ) → List ℕ → Put → Type 0
PutsReply old new bytes Done = Appends old new bytes
PutsReply old new bytes Failed = AppendsFront old new bytes

-- The one reply to a head that is refused, and the end that stands for it, unless that could not be written.
abbrev pub Dismisses : Stream → Stream → Fault → EndKind → EndKind → Type 0
Dismisses old new f wanted end =
    ((end ≡ wanted) × (new.faults ≡ old.faults) × (last : List ℕ) × IsSent true (refusal f) last × Appends old.told new.told last)
    ⊎ ((end ≡ kind.WriteFault) × Rose old.faults new.faults × (last : List ℕ) × IsSent true (refusal f) last × AppendsFront old.told new.told last)

-- nothing was sent
pub record Silent (old new : Stream) : Type 0 where
  pub taken : Keeps old.told new.told
  pub count : new.faults ≡ old.faults

-- the reply to want of memory was sent, or a front of it
abbrev pub Short : Stream → Stream → Type 0
Short old new = (put : Put) × PutsReply old.told new.told (reply_bytes (response.Short true)) put × PutCause old.faults new.faults put

-- what is done where no request arrives
abbrev pub EndsAt : Stream → Stream → RequestFault → EndKind → Type 0
EndsAt old new head.BadHead end = Dismisses old new fault.BadHead kind.BadHead end
EndsAt old new head.NoLength end = Dismisses old new fault.NoLength kind.NoLength end
EndsAt old new head.TooLarge end = Dismisses old new fault.TooLarge kind.TooLarge end
EndsAt old new head.Cut end = (end ≡ kind.Cut) × Silent old new
EndsAt old new head.ReadFault end = (end ≡ kind.ReadFault) × Silent old new
EndsAt old new head.NoMemory end = (end ≡ kind.NoMemory) × Short old new

-- how a session goes on after a reply that was written, and after one that was not
abbrev pub after_put : Bool → Put → Option EndKind
after_put close Failed = Some kind.WriteFault
after_put close Done = if close then Some kind.Closed else None

-- how it goes on after a note and a reply: with the next request, or to an end
abbrev pub after_reply : Bool → Note → Put → Option EndKind
after_reply closes note put = if is_faulted note then Some kind.DiskFault else after_put closes put

-- A session between two turns: its streams, the bytes that were read and belong to no request yet, the notes so far, and
-- its store.
pub record TurnState (S : Type 0) : Type 0 where
  pub streams : Streams
  pub inbox : List ℕ
  pub notes : List Note
  pub store : S

abbrev pub between : {S : Type 0} → Streams → List ℕ → List Note → S → TurnState S
between streams inbox notes store = record { streams = streams; inbox = inbox; notes = notes; store = store }

-- what reading the next request answered
abbrev pub ReadsNext : {S : Type 0} → TurnState S → TurnState S → Result Arrived RequestFault → Type 0
ReadsNext old new answer = Arrives old.streams.input.told new.streams.input.told old.inbox new.inbox answer

-- the bytes of the inbox, and those that the source gave since
abbrev pub HasGiven : {S : Type 0} → TurnState S → TurnState S → (List ℕ → Type 0) → Type 0
HasGiven old new Is = Given old.streams.input.told new.streams.input.told old.inbox Is

-- nothing was read, or what was given before the last piece held no whole request
abbrev pub ReadsPaced : {S : Type 0} → TurnState S → TurnState S → Type 0
ReadsPaced old new = Paced old.streams.input.told new.streams.input.told old.inbox IsUnfinished

-- no request arrived: the input ended, or something spoke against the next request
abbrev pub NoRequest : {S : Type 0} → TurnState S → TurnState S → EndKind → Type 0
NoRequest old new end =
    ((end ≡ kind.Ended) × ReadsNext old new (Ok arrived.End) × Silent old.streams.output new.streams.output)
    ⊎ ((f : RequestFault) × ReadsNext old new (Err f)
    × AtReadFault f (HasGiven old new IsUnfinished) × EndsAt old.streams.output new.streams.output f end)

module _ {S : Type 0} (write_gives : S → List Row → Result ℕ WriteRefusal → S → Type 0) (read_gives : S → ℕ → Query → Result Seen ReadRefusal → S → Type 0) (stand_gives : S → Stand → S → Type 0) where
  -- A request arrived, was handled and replied to, and its note was kept.
  pub record Turned (old new : TurnState S) (last : Bool) (end : Option EndKind) : Type 0 where
    pub request : Request
    pub note : Note
    pub bytes : List ℕ
    pub put : Put
    pub arrives : ReadsNext old new (Ok (arrived.One request))
    pub given : HasGiven old new (λ given. Begins given request new.inbox)
    pub paced : ReadsPaced old new
    pub serves : Serves write_gives read_gives stand_gives request old.store note new.store (request.close || last || is_faulted note) bytes
    pub noted : new.notes ≡ old.notes ++ note ∷ []
    pub sent : PutsReply old.streams.output.told new.streams.output.told bytes put
    pub count : PutCause old.streams.output.faults new.streams.output.faults put
    pub goes : end ≡ after_reply request.close note put

  -- No request arrived, and the session ends.
  pub record Unturned (old new : TurnState S) (end : Option EndKind) : Type 0 where
    pub store : new.store ≡ old.store
    pub noted : new.notes ≡ old.notes
    pub paced : ReadsPaced old new
    pub kind : EndKind
    pub ends : end ≡ Some kind
    pub how : NoRequest old new kind

  abbrev pub Turns : TurnState S → TurnState S → Bool → Option EndKind → Type 0
  Turns old new last end = Turned old new last end ⊎ Unturned old new end
