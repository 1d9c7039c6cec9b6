-- What contracts see of a keeper, and what it stands for.
use Rattle.std.specs.Prelude.{◌≡◌, ◌⊎◌, ℕ, ◌+◌, ◌<◌, ◌≤◌, ◌^◌, List, [], ◌∷◌, ◌++◌, length, take, drop, Option, Some, None, Result, Ok, Err, false}
use Rattle.fd_kinds.specs.History.{History}
use Rattle.fd_device.specs.Causes.{Rose}
use Rattle.fd_device.specs.Disks.{Files, same_file, IsDurable}
use Rattle.fd_device.specs.declared.files.FileId.{FileId}
use Rattle.fd_wal.specs.Frames.{Frame, Transactions, Rotation, frame_bytes, batches_size}
use Rattle.fd_wal.specs.Logs.{history_of, IsLog, Continues}
use Rattle.fd_wal.specs.declared.limits.TheConstants.{MOST_LOG_BYTES}
use Rattle.fd_keeper.specs.Blocks.{Block, Logged, log_of, seal_of, history_in, Recovers, Extends, recovered}
use Rattle.fd_keeper.specs.declared.faults.KeeperFault.{KeeperFault}
use Rattle.fd_keeper.specs.declared.faults.KeeperFault.TheVariants as keeper
use Rattle.fd_keeper.specs.declared.faults.WriteFault.{WriteFault}
use Rattle.fd_keeper.specs.declared.faults.WriteFault.TheVariants as write

-- bytes that end with a closed gate, in this place
pub record EndsWithClosedGate (gate : ℕ) (bytes : List ℕ) : Type 0 where
  pub front : List ℕ
  pub place : length front ≡ gate
  pub whole : bytes ≡ front ++ 0 ∷ []

-- A frame with a closed gate behind it goes behind a closed gate, which is then opened: whatever stands behind it while
-- it is closed, or the frame behind a gate of any byte.
pub record Shut (gate : ℕ) (old new : List ℕ) : Type 0 where
  pub tail : List ℕ
  pub whole : new ≡ take gate old ++ 0 ∷ tail

pub record Whole (gate : ℕ) (frame old new : List ℕ) : Type 0 where
  pub byte : ℕ
  pub whole : new ≡ take gate old ++ byte ∷ frame

abbrev pub Appends : ℕ → List ℕ → List ℕ → List ℕ → Type 0
Appends gate frame old new = Shut gate old new ⊎ Whole gate frame old new

-- all files but the seal and the log of one block are the same
abbrev pub OthersOf : ℕ → Files → Files → Type 0
OthersOf block old new = (f : FileId) → same_file f (seal_of block) ≡ false → same_file f (log_of block) ≡ false → new f ≡ old f

-- all files but the log of a block, and the seal and the log of the next one, are the same
abbrev pub OthersAt : ℕ → Files → Files → Type 0
OthersAt block old new = (f : FileId) → same_file f (log_of block) ≡ false → same_file f (seal_of (block + 1)) ≡ false → same_file f (log_of (block + 1)) ≡ false → new f ≡ old f

-- what contracts see of a keeper: the disk, the active block, the place of the closed gate of its log, how many batches
-- are synced, and the disk's count of faults after the one that stopped the keeper
pub record Kept (D : Type 0) : Type 0 where
  pub disk : D
  pub block : ℕ
  pub gate : ℕ
  pub synced : ℕ
  pub fault : Option ℕ

module _ {D : Type 0} (seen : D → Files) (may_leave : D → Files → Type 0) where
  -- The disk stands for these blocks in each image, and the log of the active one ends with its closed gate, in a place
  -- where the next frame goes.
  pub record Rests (disk : D) (block gate synced : ℕ) (closed : List Block) (active : List Frame) : Type 0 where
    pub number : block ≡ length closed
    pub count : synced ≡ length (recovered closed active)
    pub log : IsLog (seen disk (log_of block)) (1 + length (history_in closed)) active gate
    pub last : EndsWithClosedGate gate (seen disk (log_of block))
    pub durable : IsDurable (log_of block) (seen disk) (may_leave disk)
    pub recovers : Recovers (seen disk) closed active
    pub images : (image : Files) → may_leave disk image → Recovers image closed active

  -- It does so for some blocks.
  pub record IsAtRest (disk : D) (block gate synced : ℕ) : Type 0 where
    pub closed : List Block
    pub active : List Frame
    pub rests : Rests disk block gate synced closed active

  -- the seal and the log of a block are empty, in each image too
  pub record IsEmptyBlock (disk : D) (block : ℕ) : Type 0 where
    pub seal : seen disk (seal_of block) ≡ []
    pub log : seen disk (log_of block) ≡ []
    pub seal_images : (image : Files) → may_leave disk image → image (seal_of block) ≡ []
    pub log_images : (image : Files) → may_leave disk image → image (log_of block) ≡ []

  -- The same disk and places, with so many of some batches more in the active block.
  pub record Gains (disk : D) (block gate synced before : ℕ) (closed : List Block) (active : List Frame) (batches : History) : Type 0 where
    pub count : ℕ
    pub within : count ≤ length batches
    pub counts : synced ≡ before + count
    pub more : List Frame
    pub added : history_of more ≡ take count batches
    pub rests : Rests disk block gate synced closed (active ++ more)

  -- After a fault of the disk each image has so many of some batches more than the blocks, and maybe the first of
  -- those behind them.
  pub record HasAtLeast (disk : D) (synced before : ℕ) (closed : List Block) (active : List Frame) (batches : History) : Type 0 where
    pub count : ℕ
    pub within : count ≤ length batches
    pub counts : synced ≡ before + count
    pub images : (image : Files) → may_leave disk image → Extends (recovered closed active ++ take count batches) (drop count batches) image

  -- A keeper that met no fault stands for these blocks.
  pub record Stands (kept : Kept D) (closed : List Block) (active : List Frame) : Type 0 where
    pub healthy : kept.fault ≡ None
    pub rests : Rests kept.disk kept.block kept.gate kept.synced closed active

  -- A keeper that stood for blocks stands for them with so many of some batches more in the active one.
  pub record HasAdded (old : Kept D) (closed : List Block) (active : List Frame) (batches : History) (new : Kept D) : Type 0 where
    pub healthy : new.fault ≡ None
    pub gains : Gains new.disk new.block new.gate new.synced old.synced closed active batches

-- what holds of each keeper: until a call meets a fault of the disk, an honest disk stands for some blocks
pub record IsSound {D : Type 0} (honest : D → Type 0) (seen : D → Files) (may_leave : D → Files → Type 0) (kept : Kept D) : Type 0 where
  pub below : kept.synced < 2 ^ 63
  pub rests : kept.fault ≡ None → honest kept.disk → IsAtRest seen may_leave kept.disk kept.block kept.gate kept.synced

-- the bytes are the frame of these batches, which goes on behind the frames of the active block
pub record IsNext (closed : List Block) (active : List Frame) (bytes : List ℕ) (number : ℕ) (batches : History) : Type 0 where
  pub spelled : bytes ≡ frame_bytes (Transactions number batches)
  pub right : Continues (1 + length (history_in closed)) active (Transactions number batches)

-- the bytes are the rotation that ends the active block's log, and a closed gate
pub record IsLast (closed : List Block) (active : List Frame) (bytes : List ℕ) (hi : ℕ) : Type 0 where
  pub spelled : bytes ≡ frame_bytes (Rotation hi) ++ 0 ∷ []
  pub right : Continues (1 + length (history_in closed)) active (Rotation hi)

-- the blocks once the log is ended
abbrev pub ended : List Block → List Frame → ℕ → List Block
ended closed active hi = closed ++ Logged (active ++ Rotation hi ∷ []) ∷ []

-- the rows of the batches, with those of the active block, are few enough for a log
abbrev pub HasRoom : List Frame → History → Type 0
HasRoom active batches = batches_size (history_of active ++ batches) ≤ MOST_LOG_BYTES

-- a fault of the disk raised the count, and nothing else did
abbrev pub HasWriteCause : {A : Type 0} → ℕ → ℕ → Result A WriteFault → Type 0
HasWriteCause before now (Err write.DiskFault) = Rose before now
HasWriteCause before now (Err write.NoMemory) = now ≡ before
HasWriteCause before now (Ok a) = now ≡ before

-- a disk fault raised the count in this call, and nothing else did
abbrev pub HasCause : {A : Type 0} → ℕ → ℕ → Result A KeeperFault → Type 0
HasCause before now (Err keeper.DiskFault) = Rose before now
HasCause before now (Err keeper.NoMemory) = now ≡ before
HasCause before now (Err (keeper.Stopped count)) = now ≡ before
HasCause before now (Ok a) = now ≡ before

-- after a disk fault the keeper keeps the count of faults, and else what it had
abbrev pub KeepsCount : {A : Type 0} → Option ℕ → ℕ → Option ℕ → Result A KeeperFault → Type 0
KeepsCount old now new (Err keeper.DiskFault) = new ≡ Some now
KeepsCount old now new (Err keeper.NoMemory) = new ≡ old
KeepsCount old now new (Err (keeper.Stopped count)) = new ≡ old
KeepsCount old now new (Ok a) = new ≡ old
