-- A run of the program: its words, its session, its status and the line on the error sink.
use Rattle.std.specs.Prelude.{◌≡◌, ℕ, ◌++◌, ◌∷◌, [], ◌⊎◌, List, codes}
use Rattle.std.specs.Io.KnownBytes.{Appends}
use Rattle.fd_lists.specs.Counts.{Rose}
use Rattle.fd_kinds.specs.History.{LocalView, IsOpened, Writes, Reads, Stands}
use Rattle.fd_http.specs.Replies.{AppendsFront}
use Rattle.fd_api.specs.declared.note.Note.{Note}
use Rattle.fd_api.specs.declared.sessions.EndKind.{EndKind}
use Rattle.fd_api.specs.declared.sessions.EndKind.TheVariants.{Ended, Closed, Limit, Cut, BadHead, NoLength, TooLarge, ReadFault, WriteFault, DiskFault, NoMemory}
use Rattle.fd_api.specs.Alone.{AloneSessionRan}
use Rattle.fd_api.specs.Streams.{Stream, Streams}
use Rattle.fd_api.specs.Sessions.{Ends, SourceCause, SinkCause}

-- the words of a session
abbrev pub session_words : List (List ℕ)
session_words = codes "session" ∷ []

abbrev pub status_of : EndKind → ℕ
status_of Ended = 0
status_of Closed = 0
status_of Cut = 2
status_of BadHead = 2
status_of NoLength = 2
status_of TooLarge = 2
status_of ReadFault = 3
status_of WriteFault = 4
status_of DiskFault = 5
status_of NoMemory = 7
status_of Limit = 10

abbrev pub line : List ℕ → List ℕ
line text = text ++ 10 ∷ []

-- what the error sink is told of an end
abbrev pub line_of : EndKind → List ℕ
line_of Ended = []
line_of Closed = []
line_of Cut = line (codes "frostd: input refused: Cut")
line_of BadHead = line (codes "frostd: input refused: BadHead")
line_of NoLength = line (codes "frostd: input refused: NoLength")
line_of TooLarge = line (codes "frostd: input refused: TooLarge")
line_of ReadFault = line (codes "frostd: read fault")
line_of WriteFault = line (codes "frostd: write fault")
line_of DiskFault = line (codes "frostd: disk fault")
line_of NoMemory = line (codes "frostd: no memory")
line_of Limit = line (codes "frostd: request limit")

abbrev pub bad_words : List ℕ
bad_words = line (codes "frostd: bad words")

-- the error sink took the line, or a front of it where its count rose
abbrev pub Tells : Stream → Stream → List ℕ → Type 0
Tells old new text =
    (Appends old.told new.told text × (new.faults ≡ old.faults)) ⊎ (AppendsFront old.told new.told text × Rose old.faults new.faults)

-- The run of a session over a store that was opened without batches: there are notes, and that store before and after,
-- with which the end meets what a session leaves over a store that nobody else writes. The store then has exactly the
-- batches of the notes, numbered from 1, and each note's numbers are exact.
pub record RunsSession (old new : Streams) (end : EndKind) : Type 0 where
  pub notes : List Note
  pub first : LocalView
  pub last : LocalView
  pub opened : IsOpened [] first
  pub ends : Ends Writes Reads Stands old new first notes last end
  pub ran : AloneSessionRan old new first notes last end
  pub source : SourceCause old.input.faults new.input.faults end
  pub sink : SinkCause old.output.faults new.output.faults end

-- what a session's end tells: the status, and the line on the error sink
pub record TellsSession (old new : Streams) (err_old err_new : Stream) (status : ℕ) : Type 0 where
  pub end : EndKind
  pub runs : RunsSession old new end
  pub status_is : status ≡ status_of end
  pub told : Tells err_old err_new (line_of end)
