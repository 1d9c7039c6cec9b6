-- The history that the files of a disk stand for: block after block, from 0 on.
use Rattle.std.specs.Prelude.{◌≡◌, ◌⊎◌, ℕ, ◌+◌, ◌≤◌, Bool, true, false, List, [], ◌∷◌, ◌++◌, length, take}
use Rattle.fd_kinds.specs.History.{History}
use Rattle.fd_device.specs.Disks.{Files}
use Rattle.fd_device.specs.declared.files.FileId.{FileId}
use Rattle.fd_device.specs.declared.files.FileKind.TheVariants as kind
use Rattle.fd_wal.specs.Frames.{Frame}
use Rattle.fd_wal.specs.Logs.{history_of, is_rotated, IsOpen, IsClosed, IsLog, IsDamaged}

abbrev pub log_of : ℕ → FileId
log_of block = record { kind = kind.Log; block = block }

abbrev pub seal_of : ℕ → FileId
seal_of block = record { kind = kind.Seal; block = block }

-- a block that is not sealed, by the frames of its log
pub data Block : Type 0 where
  Logged : (frames : List Frame) → Block

-- its batches, in order
abbrev pub batches_in : Block → History
batches_in (Logged frames) = history_of frames

-- another block follows
abbrev pub leads_on : Block → Bool
leads_on (Logged frames) = is_rotated frames

-- the batches of blocks, one behind the other
abbrev pub history_in : List Block → History
history_in [] = []
history_in (block ∷ blocks) = batches_in block ++ history_in blocks

-- The gate of the block's seal is closed, and its log has these frames, whose numbers begin with the first.
pub record IsLogged (files : Files) (number first : ℕ) (frames : List Frame) : Type 0 where
  pub unsealed : IsClosed (files (seal_of number))
  pub gate : ℕ
  pub log : IsLog (files (log_of number)) first frames gate

abbrev pub IsBlock : Files → ℕ → ℕ → Block → Type 0
IsBlock files number first (Logged frames) = IsLogged files number first frames

-- blocks from a number on, each of which leads on to the next
abbrev pub LeadOn : Files → ℕ → ℕ → List Block → Type 0
LeadOn files number first [] = Unit {0}
LeadOn files number first (block ∷ blocks) = IsBlock files number first block × (leads_on block ≡ true) × LeadOn files (number + 1) (first + length (batches_in block)) blocks

-- The files are these closed blocks, and behind them the active one: the first that leads on to no other. It has these
-- frames.
pub record Recovers (files : Files) (closed : List Block) (active : List Frame) : Type 0 where
  pub before : LeadOn files 0 1 closed
  pub last : IsLogged files (length closed) (1 + length (history_in closed)) active
  pub unended : is_rotated active ≡ false

-- the history of blocks, of which the last has these frames
abbrev pub recovered : List Block → List Frame → History
recovered closed active = history_in closed ++ history_of active

-- The gate of the block's seal is open: seals have no meaning yet, and so the seal is damaged where it begins.
pub record HasOpenSeal (files : Files) (number : ℕ) (file : FileId) (at : ℕ) : Type 0 where
  pub opened : IsOpen (files (seal_of number))
  pub file_is : file ≡ seal_of number
  pub at_is : at ≡ 0

-- The gate of the block's seal is closed, and its log is damaged at this place.
pub record HasDamagedLog (files : Files) (number first : ℕ) (file : FileId) (at : ℕ) : Type 0 where
  pub unsealed : IsClosed (files (seal_of number))
  pub file_is : file ≡ log_of number
  pub log : IsDamaged (files (log_of number)) first at

-- the first damaged place of a block is in its seal, or else in its log
abbrev pub IsDamagedBlock : Files → ℕ → ℕ → FileId → ℕ → Type 0
IsDamagedBlock files number first file at = HasOpenSeal files number file at ⊎ HasDamagedLog files number first file at

-- Behind blocks that lead on to it stands the first damaged one.
pub record IsDamagedAt (files : Files) (file : FileId) (at : ℕ) : Type 0 where
  pub closed : List Block
  pub before : LeadOn files 0 1 closed
  pub damage : IsDamagedBlock files (length closed) (1 + length (history_in closed)) file at

-- the files recover to a history
pub record RecoversTo (history : History) (files : Files) : Type 0 where
  pub closed : List Block
  pub active : List Frame
  pub blocks : Recovers files closed active
  pub is : recovered closed active ≡ history

-- they recover to a history and the first of some batches behind it
pub record Extends (history batches : History) (files : Files) : Type 0 where
  pub count : ℕ
  pub within : count ≤ length batches
  pub recovers : RecoversTo (history ++ take count batches) files
