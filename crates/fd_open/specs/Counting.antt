-- What is found in the files of blocks, and how many batches and rows these have.
use Rattle.std.specs.Prelude.{◌≡◌, ℕ, ◌+◌, Bool, List, length, sum_by}
use Rattle.fd_device.specs.Disks.{Files}
use Rattle.fd_wal.specs.Frames.{Frame}
use Rattle.fd_wal.specs.Logs.{history_of, is_rotated, IsClosed, IsLog}
use Rattle.fd_wal.specs.Replays.{Tells}
use Rattle.fd_keeper.specs.Blocks.{Block, log_of, seal_of, history_in, recovered, LeadOn, Recovers}
use Rattle.fd_open.specs.declared.reading.LogFound.{LogFound}
use Rattle.fd_open.specs.declared.counting.Found.{Found}

-- the bytes are a log, of which this was found
pub record IsFoundIn (bytes : List ℕ) (first : ℕ) (found : LogFound) : Type 0 where
  pub size : found.size ≡ length bytes
  pub frames : List Frame
  pub log : IsLog bytes first frames found.replayed.gate
  pub tells : Tells first frames found.replayed.gate found.replayed

-- such bytes
pub record IsFound (first : ℕ) (found : LogFound) : Type 0 where
  pub bytes : List ℕ
  pub is : IsFoundIn bytes first found

-- how many blocks files reach, and how many batches and rows these have
pub record IsCountOf (closed : List Block) (active : List Frame) (found : Found) : Type 0 where
  pub blocks : found.blocks ≡ length closed + 1
  pub numbers : found.numbers ≡ length (recovered closed active)
  pub rows : found.rows ≡ sum_by length (recovered closed active)

-- so many blocks lead on, with so many batches and rows
pub record CountsUpto (files : Files) (closed : List Block) (found : Found) : Type 0 where
  pub lead : LeadOn files 0 1 closed
  pub blocks : found.blocks ≡ length closed
  pub numbers : found.numbers ≡ length (history_in closed)
  pub rows : found.rows ≡ sum_by length (history_in closed)

-- the block behind so many, whose batches and rows are counted
pub record CountsBlock (files : Files) (old new : Found) (more : Bool) : Type 0 where
  pub frames : List Frame
  pub gate : ℕ
  pub unsealed : IsClosed (files (seal_of old.blocks))
  pub log : IsLog (files (log_of old.blocks)) (old.numbers + 1) frames gate
  pub ended : more ≡ is_rotated frames
  pub numbers : new.numbers ≡ old.numbers + length (history_of frames)
  pub rows : new.rows ≡ old.rows + sum_by length (history_of frames)

-- the files recover, and so many blocks, batches and rows are theirs
pub record Counts (files : Files) (found : Found) : Type 0 where
  pub closed : List Block
  pub active : List Frame
  pub recovers : Recovers files closed active
  pub count : IsCountOf closed active found
