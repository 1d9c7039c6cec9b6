-- What reading and syncing do to a disk.
use Rattle.std.specs.Prelude.{◌≡◌, ◌⊎◌, ◌↔◌, ◌+◌, ◌<◌, ◌≤◌, ℕ, List, length}
use Rattle.fd_kinds.specs.History.{History}
use Rattle.fd_device.specs.Disks.{Files}
use Rattle.fd_device.specs.Moments.{LeavesOnly}
use Rattle.fd_device.specs.declared.files.FileId.{FileId}
use Rattle.fd_wal.specs.Frames.{Frame}
use Rattle.fd_wal.specs.Logs.{IsLog}
use Rattle.fd_keeper.specs.Blocks.{Block, log_of, history_in, Recovers, RecoversTo}
use Rattle.fd_open.specs.declared.tail.Tail.{Tail}

-- ---- files that are on the disk

-- of the files of a block a crash leaves what a read gives
abbrev pub IsDurableAt : ℕ → Files → (Files → Type 0) → Type 0
IsDurableAt block files may_leave = (image : Files) → may_leave image → (f : FileId) → f.block ≡ block → image f ≡ files f

-- likewise of the files of all blocks below this one
abbrev pub IsDurableBelow : ℕ → Files → (Files → Type 0) → Type 0
IsDurableBelow block files may_leave = (image : Files) → may_leave image → (f : FileId) → f.block < block → image f ≡ files f

-- likewise of the files of all blocks from this one on
abbrev pub IsDurableFrom : ℕ → Files → (Files → Type 0) → Type 0
IsDurableFrom block files may_leave = (image : Files) → may_leave image → (f : FileId) → block ≤ f.block → image f ≡ files f

-- the place of the closed gate lies within the log
abbrev pub IsPlaced : Tail → Type 0
IsPlaced tail = tail.gate ≤ tail.size

module _ {D : Type 0} (honest : D → Type 0) (seen : D → Files) (may_leave : D → Files → Type 0) (moment : D → ℕ) (left_since : D → ℕ → Files → Type 0) where
  -- Calls that change no file: a crash during them leaves what it might have left before.
  pub record Quiet (old new : D) : Type 0 where
    pub honesty : honest old ↔ honest new
    pub same : honest old → seen new ≡ seen old
    pub fewer : honest old → (image : Files) → may_leave new image → may_leave old image
    pub moments : honest old → LeavesOnly moment left_since old new (may_leave old)

  -- Up to the end of a barrier a crash leaves what it might have left before; from there on, what recovers to the one
  -- history of the files.
  pub record Passed (old new : D) : Type 0 where
    pub history : History
    pub recovers : RecoversTo history (seen old)
    pub barrier : D
    pub before : LeavesOnly moment left_since old barrier (may_leave old)
    pub after : LeavesOnly moment left_since barrier new (RecoversTo history)

  -- A barrier was passed, or nothing was changed before its end.
  abbrev pub Barred : D → D → Type 0
  Barred old new = LeavesOnly moment left_since old new (may_leave old) ⊎ Passed old new

module _ {D : Type 0} (seen : D → Files) (may_leave : D → Files → Type 0) where
  -- The disk reads as these blocks, whose files are on the disk, and the log of the active one has its closed gate and
  -- its length here.
  pub record IsRead (disk : D) (block : ℕ) (tail : Tail) (closed : List Block) (active : List Frame) : Type 0 where
    pub number : block ≡ length closed
    pub recovers : Recovers (seen disk) closed active
    pub log : IsLog (seen disk (log_of block)) (1 + length (history_in closed)) active tail.gate
    pub size : tail.size ≡ length (seen disk (log_of block))
    pub durable : IsDurableBelow (block + 1) (seen disk) (may_leave disk)
