-- When a shelf and the keeper of a log stand for one history.
use Rattle.std.specs.Prelude.{◌≡◌, ◌⊎◌, ◌+◌, ◌<◌, ℕ, Bool, true, false, List, [], ◌∷◌, ◌++◌, length, map}
use Rattle.fd_kinds.specs.History.{History}
use Rattle.fd_kinds.specs.Parts.{PartMeaning}
use Rattle.fd_device.specs.Disks.{Files}
use Rattle.fd_shelf.specs.Books.{Book, Shelved}
use Rattle.fd_shelf.specs.Histories.{hist}
use Rattle.fd_shelf.specs.Steps.{highest, is_full}
use Rattle.fd_wal.specs.Frames.{Frame}
use Rattle.fd_wal.specs.Logs.{history_of}
use Rattle.fd_keeper.specs.Blocks.{Block, batches_in, recovered}
use Rattle.fd_keeper.specs.Keepers.{Kept, Stands}

-- the last number of each block of logs, behind so many numbers
abbrev pub ends_behind : ℕ → List Block → List ℕ
ends_behind before [] = []
ends_behind before (block ∷ blocks) = (before + length (batches_in block)) ∷ ends_behind (before + length (batches_in block)) blocks

-- the closed blocks of the logs are these, by their last numbers
abbrev pub HasBlocks : List Block → List (List PartMeaning) → Type 0
HasBlocks closed blocks = map highest blocks ≡ ends_behind 0 closed

-- The active blocks of both are the same.
abbrev pub IsLevel : List Block → Book → Type 0
IsLevel closed book = HasBlocks closed book.closed

-- The active block of the book takes no further number, and its log is ended: the next number goes to the next log.
abbrev pub IsAhead : List Block → Book → Type 0
IsAhead closed book = (is_full book.active ≡ true) × HasBlocks closed (book.closed ++ book.active ∷ [])

-- In the log of the next number stand the batches of the block that it goes to.
abbrev pub IsReady : List Block → List Frame → Book → Type 0
IsReady closed active book = ((is_full book.active ≡ false) × IsLevel closed book) ⊎ (IsAhead closed book × (history_of active ≡ []))

module _ {D : Type 0} (seen : D → Files) (may_leave : D → Files → Type 0) where
  -- The logs have the history of the shelf, each number in the block in which the shelf has it.
  pub record StandsFor (kept : Kept D) (shelf : Shelved) : Type 0 where
    pub closed : List Block
    pub active : List Frame
    pub keeper : Stands seen may_leave kept closed active
    pub history : recovered closed active ≡ hist shelf.book shelf.mark
    pub blocks : IsLevel closed shelf.book ⊎ (IsAhead closed shelf.book × (history_of active ≡ []))

  -- Likewise, and the next number goes to the log of the keeper's block.
  pub record IsReadyFor (kept : Kept D) (shelf : Shelved) : Type 0 where
    pub closed : List Block
    pub active : List Frame
    pub keeper : Stands seen may_leave kept closed active
    pub history : recovered closed active ≡ hist shelf.book shelf.mark
    pub ready : IsReady closed active shelf.book

  -- The logs have the history of the shelf and the next batches, in the block to which the next number goes.
  pub record HasLogged (batches : History) (kept : Kept D) (shelf : Shelved) : Type 0 where
    pub closed : List Block
    pub active : List Frame
    pub keeper : Stands seen may_leave kept closed active
    pub history : recovered closed active ≡ hist shelf.book shelf.mark ++ batches
    pub blocks : ((is_full shelf.book.active ≡ false) × IsLevel closed shelf.book) ⊎ IsAhead closed shelf.book
