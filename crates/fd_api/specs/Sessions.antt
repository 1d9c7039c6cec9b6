-- A session: requests, what each did to the store, the bytes sent for it, and the end.
use Rattle.std.specs.Prelude.{◌≡◌, ℕ, ◌-◌, ◌<◌, ◌≤◌, ◌⊎◌, ◌==◌, ◌||◌, Bool, true, false, List, [], ◌∷◌, ◌++◌, Option, Result, MatchOption, length, take, IsFalse, ⊤}
use Rattle.std.specs.Io.KnownBytes.{Appends, Consumes}
use Rattle.fd_lists.specs.Counts.{Rose}
use Rattle.fd_kinds.specs.declared.row.Row.{Row}
use Rattle.fd_kinds.specs.declared.query.Query.{Query}
use Rattle.fd_kinds.specs.declared.store.Seen.{Seen}
use Rattle.fd_kinds.specs.declared.stand.Stand.{Stand}
use Rattle.fd_kinds.specs.declared.store.WriteRefusal.{WriteRefusal}
use Rattle.fd_kinds.specs.declared.store.ReadRefusal.{ReadRefusal}
use Rattle.fd_http.specs.declared.limits.TheConstants.{LONGEST_PIECE, MOST_REQUESTS}
use Rattle.fd_http.specs.declared.request.Request.{Request}
use Rattle.fd_http.specs.declared.request.RequestFault.{RequestFault}
use Rattle.fd_http.specs.declared.request.RequestFault.TheVariants as head
use Rattle.fd_http.specs.declared.replies.Response.{Response}
use Rattle.fd_http.specs.declared.replies.Response.TheVariants as response
use Rattle.fd_http.specs.Inputs.{End, ended, closed, limit, refused_as, Splits}
use Rattle.fd_http.specs.Prefixes.{Leads}
use Rattle.fd_http.specs.Remainders.{IfTold, Given}
use Rattle.fd_http.specs.Replies.{AppendsFront, reply_bytes}
use Rattle.fd_json.specs.declared.refusal.Fault.TheVariants as fault
use Rattle.fd_api.specs.declared.note.Note.{Note}
use Rattle.fd_api.specs.declared.note.Note.TheVariants.{Read, Wrote, Stood, NotDrawn, Spent, Refused, Faulted, Short}
use Rattle.fd_api.specs.declared.sessions.EndKind.{EndKind}
use Rattle.fd_api.specs.declared.sessions.EndKind.TheVariants as kind
use Rattle.fd_api.specs.Effects.{Handles}
use Rattle.fd_api.specs.Replies.{IsSent, refusal}
use Rattle.fd_api.specs.Streams.{Stream, Streams}

abbrev pub is_faulted : Note → Bool
is_faulted (Read w) = false
is_faulted (Wrote n) = false
is_faulted (Stood drawn synced w) = false
is_faulted (NotDrawn drawn) = false
is_faulted (Spent drawn) = false
is_faulted Refused = false
is_faulted Faulted = true
is_faulted Short = false

-- The reply closes the session where the request asks for it, where no room is left for another, and where the disk failed.
abbrev pub is_last : ℕ → Request → Note → Bool
is_last room request note = request.close || (room == 1) || is_faulted note

-- the bytes that the source tells split into these requests and this end
abbrev pub IsSplit : Option (List ℕ) → List Request → End → Type 0
IsSplit told requests end = MatchOption told ⊤ (λ bytes. Splits bytes requests end)

-- of the bytes that the source told none is left
abbrev pub IsDrained : Option (List ℕ) → Option (List ℕ) → Type 0
IsDrained old new = IfTold old new [] [] (λ bytes left. left ≡ [])

-- they begin with these requests, none of which asks to close
abbrev pub Begins : Option (List ℕ) → List Request → Type 0
Begins told requests = MatchOption told ⊤ (λ bytes. (left : ℕ) × (after : List ℕ) × Leads requests MOST_REQUESTS bytes left after)

-- they begin with these requests, of which the last may ask to close
abbrev pub IsBegun : Option (List ℕ) → List Request → Type 0
IsBegun told requests = Begins told requests ⊎ IsSplit told requests closed

-- The bytes that the source gave, as an input of their own, split into these requests, and end with the last of them or
-- inside another.
abbrev pub AreAllGiven : Option (List ℕ) → Option (List ℕ) → List Request → Type 0
AreAllGiven old new requests = Given old new [] (λ given. Splits given requests ended ⊎ Splits given requests (refused_as head.Cut))

-- No more is read than the requests need: the bytes that the source gave before the last piece, as an input of their own,
-- split into the first of these requests, and end with the last of those or inside another.
pub record KeepsPace (old new : Option (List ℕ)) (requests : List Request) : Type 0 where
  pub before : List ℕ
  pub piece : List ℕ
  pub consumed : Consumes old new (before ++ piece)
  pub small : length piece ≤ LONGEST_PIECE
  pub handled : List Request
  pub more : List Request
  pub all : requests ≡ handled ++ more
  pub holds : Splits before handled ended ⊎ Splits before handled (refused_as head.Cut)

-- no note tells of a disk fault
abbrev pub AreSound : List Note → Type 0
AreSound [] = ⊤
AreSound (note ∷ notes) = IsFalse (is_faulted note) × AreSound notes

-- a note that tells of one is the last, and stands there exactly at that end
abbrev pub FaultsLast : EndKind → List Note → Type 0
FaultsLast kind.Ended notes = AreSound notes
FaultsLast kind.Closed notes = AreSound notes
FaultsLast kind.Limit notes = AreSound notes
FaultsLast kind.Cut notes = AreSound notes
FaultsLast kind.BadHead notes = AreSound notes
FaultsLast kind.NoLength notes = AreSound notes
FaultsLast kind.TooLarge notes = AreSound notes
FaultsLast kind.ReadFault notes = AreSound notes
FaultsLast kind.WriteFault notes = AreSound notes
FaultsLast kind.DiskFault notes = (before : List Note) × (notes ≡ before ++ Faulted ∷ []) × AreSound before
FaultsLast kind.NoMemory notes = AreSound notes

-- the one reply to a head that is refused
abbrev pub IsDismissal : RequestFault → List ℕ → Type 0
IsDismissal head.BadHead bytes = IsSent true (refusal fault.BadHead) bytes
IsDismissal head.NoLength bytes = IsSent true (refusal fault.NoLength) bytes
IsDismissal head.TooLarge bytes = IsSent true (refusal fault.TooLarge) bytes
IsDismissal head.Cut bytes = ⊥
IsDismissal head.ReadFault bytes = ⊥
IsDismissal head.NoMemory bytes = ⊥

-- the sink took these bytes
abbrev pub Takes : Stream → Stream → List ℕ → Type 0
Takes old new bytes = Appends old.told new.told bytes

-- the output, and the reply to a head that is refused
abbrev pub TakesThen : Stream → Stream → RequestFault → List ℕ → Type 0
TakesThen old new refused output = (last : List ℕ) × IsDismissal refused last × Takes old new (output ++ last)

-- A front of the output; or of the output and the reply to a head that is refused, which is the one at which the split of
-- the input ends.
abbrev pub TakesPart : Streams → Streams → List Request → List ℕ → Type 0
TakesPart old new requests output =
    AppendsFront old.output.told new.output.told output
    ⊎ ((refused : RequestFault) × IsSplit old.input.told requests (refused_as refused)
    × (last : List ℕ) × IsDismissal refused last × AppendsFront old.output.told new.output.told (output ++ last))

-- the output, or a front of it where the sink's count rose
abbrev pub TakesUnlessFault : Stream → Stream → List ℕ → Type 0
TakesUnlessFault old new output =
    (Takes old new output × (new.faults ≡ old.faults)) ⊎ (AppendsFront old.told new.told output × Rose old.faults new.faults)

-- the output and the reply to want of memory, or a front of that where the sink's count rose
abbrev pub TakesThenShort : Stream → Stream → List ℕ → Type 0
TakesThenShort old new output =
    (Takes old new (output ++ reply_bytes (response.Short true)) × (new.faults ≡ old.faults))
    ⊎ ((k : ℕ) × (k ≤ length (reply_bytes (response.Short true))) × Takes old new (output ++ take k (reply_bytes (response.Short true))) × Rose old.faults new.faults)

-- the requests that a session read, by its end
abbrev pub ReadBy : Stream → Stream → EndKind → List Request → Type 0
ReadBy old new kind.Ended requests = IsSplit old.told requests ended × IsDrained old.told new.told
ReadBy old new kind.Closed requests = IsSplit old.told requests closed
ReadBy old new kind.Limit requests = IsSplit old.told requests limit
ReadBy old new kind.Cut requests = IsSplit old.told requests (refused_as head.Cut)
ReadBy old new kind.BadHead requests = IsSplit old.told requests (refused_as head.BadHead)
ReadBy old new kind.NoLength requests = IsSplit old.told requests (refused_as head.NoLength)
ReadBy old new kind.TooLarge requests = IsSplit old.told requests (refused_as head.TooLarge)
ReadBy old new kind.ReadFault requests = Begins old.told requests × AreAllGiven old.told new.told requests
ReadBy old new kind.WriteFault requests = IsBegun old.told requests
ReadBy old new kind.DiskFault requests = IsBegun old.told requests
ReadBy old new kind.NoMemory requests = Begins old.told requests

-- what the sink took of the output of these requests, by the end
abbrev pub SentBy : Streams → Streams → EndKind → List Request → List ℕ → Type 0
SentBy old new kind.Ended requests output = Takes old.output new.output output
SentBy old new kind.Closed requests output = Takes old.output new.output output
SentBy old new kind.Limit requests output = Takes old.output new.output output
SentBy old new kind.Cut requests output = Takes old.output new.output output
SentBy old new kind.BadHead requests output = TakesThen old.output new.output head.BadHead output
SentBy old new kind.NoLength requests output = TakesThen old.output new.output head.NoLength output
SentBy old new kind.TooLarge requests output = TakesThen old.output new.output head.TooLarge output
SentBy old new kind.ReadFault requests output = Takes old.output new.output output
SentBy old new kind.WriteFault requests output = TakesPart old new requests output
SentBy old new kind.DiskFault requests output = TakesUnlessFault old.output new.output output
SentBy old new kind.NoMemory requests output = TakesThenShort old.output new.output output

module _ {S : Type 0} (write_gives : S → List Row → Result ℕ WriteRefusal → S → Type 0) (read_gives : S → ℕ → Query → Result Seen ReadRefusal → S → Type 0) (stand_gives : S → Stand → S → Type 0) where
  -- one request: what handling it did, and the bytes sent for it
  pub record Serves (request : Request) (old : S) (note : Note) (new : S) (last : Bool) (bytes : List ℕ) : Type 0 where
    pub reply : Response
    pub handled : Handles write_gives read_gives stand_gives request old note reply new
    pub sent : IsSent last reply bytes

  -- Requests in order, each with its note, within the room for so many: the store before and after, and the output.
  abbrev pub Runs : S → ℕ → List Request → List Note → S → List ℕ → Type 0
  Runs old room [] [] new output = (new ≡ old) × (output ≡ [])
  Runs old room (request ∷ requests) (note ∷ notes) new output =
      (0 < room) × (mid : S) × (first : List ℕ) × (rest : List ℕ)
      × Serves request old note mid (is_last room request note) first
      × Runs mid (room - 1) requests notes new rest
      × (output ≡ first ++ rest)
  Runs old room [] (note ∷ notes) new output = ⊥
  Runs old room (request ∷ requests) [] new output = ⊥

  -- What a session leaves, by its end: its streams before and after, the store before, the notes, and the store after.
  pub record Ends (old new : Streams) (first : S) (notes : List Note) (last : S) (end : EndKind) : Type 0 where
    pub requests : List Request
    pub output : List ℕ
    pub read : ReadBy old.input new.input end requests
    pub pace : KeepsPace old.input.told new.input.told requests
    pub run : Runs first MOST_REQUESTS requests notes last output
    pub written : SentBy old new end requests output
    pub faulted : FaultsLast end notes

-- a read fault raised the source's count, and nothing else did
abbrev pub SourceCause : ℕ → ℕ → EndKind → Type 0
SourceCause before now kind.Ended = now ≡ before
SourceCause before now kind.Closed = now ≡ before
SourceCause before now kind.Limit = now ≡ before
SourceCause before now kind.Cut = now ≡ before
SourceCause before now kind.BadHead = now ≡ before
SourceCause before now kind.NoLength = now ≡ before
SourceCause before now kind.TooLarge = now ≡ before
SourceCause before now kind.ReadFault = Rose before now
SourceCause before now kind.WriteFault = now ≡ before
SourceCause before now kind.DiskFault = now ≡ before
SourceCause before now kind.NoMemory = now ≡ before

-- A write fault raised the sink's count. It may have risen too where the disk failed, as the reply to that was sent, and
-- where memory was wanting.
abbrev pub SinkCause : ℕ → ℕ → EndKind → Type 0
SinkCause before now kind.Ended = now ≡ before
SinkCause before now kind.Closed = now ≡ before
SinkCause before now kind.Limit = now ≡ before
SinkCause before now kind.Cut = now ≡ before
SinkCause before now kind.BadHead = now ≡ before
SinkCause before now kind.NoLength = now ≡ before
SinkCause before now kind.TooLarge = now ≡ before
SinkCause before now kind.ReadFault = now ≡ before
SinkCause before now kind.WriteFault = Rose before now
SinkCause before now kind.DiskFault = (now ≡ before) ⊎ Rose before now
SinkCause before now kind.NoMemory = (now ≡ before) ⊎ Rose before now

-- a disk fault raised the store's count, and nothing else did
abbrev pub StoreCause : ℕ → ℕ → EndKind → Type 0
StoreCause before now kind.Ended = now ≡ before
StoreCause before now kind.Closed = now ≡ before
StoreCause before now kind.Limit = now ≡ before
StoreCause before now kind.Cut = now ≡ before
StoreCause before now kind.BadHead = now ≡ before
StoreCause before now kind.NoLength = now ≡ before
StoreCause before now kind.TooLarge = now ≡ before
StoreCause before now kind.ReadFault = now ≡ before
StoreCause before now kind.WriteFault = now ≡ before
StoreCause before now kind.DiskFault = Rose before now
StoreCause before now kind.NoMemory = now ≡ before
