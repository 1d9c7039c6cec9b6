-- What a store is opened to.
use Rattle.std.specs.Prelude.{◌≡◌, ◌+◌, ℕ, List, length, map}
use Rattle.fd_device.specs.Disks.{Files, OthersStay}
use Rattle.fd_shelf.specs.Books.{Shelved}
use Rattle.fd_shelf.specs.Steps.{highest}
use Rattle.fd_wal.specs.Frames.{Frame}
use Rattle.fd_keeper.specs.Blocks.{Block, log_of, recovered, Recovers}
use Rattle.fd_keeper.specs.Keepers.{Kept, Rests, Stands}
use Rattle.fd_open.specs.Barriers.{IsDurableBelow}
use Rattle.fd_open.specs.Shelving.{IsShelfOf, ends_behind}

module _ {D : Type 0} (seen : D → Files) (may_leave : D → Files → Type 0) where
  -- The shelf has the batches of the blocks that the files were, and a keeper may go on behind them. All files but the log
  -- of the active block are the same, and each file of these blocks is on the disk.
  pub record Opens (old new : D) (shelf : Shelved) (gate : ℕ) : Type 0 where
    pub closed : List Block
    pub active : List Frame
    pub recovers : Recovers (seen old) closed active
    pub shelf_is : IsShelfOf closed active shelf
    pub rests : Rests seen may_leave new (length closed) gate (length (recovered closed active)) closed active
    pub others : OthersStay (log_of (length closed)) (seen old) (seen new)
    pub durable : IsDurableBelow (length closed + 1) (seen new) (may_leave new)

  -- The shelf and the keeper stand for the blocks that the files were, and each closed block ends with the same number in
  -- both.
  pub record IsOpened (old : D) (shelf : Shelved) (kept : Kept D) : Type 0 where
    pub closed : List Block
    pub active : List Frame
    pub recovers : Recovers (seen old) closed active
    pub shelf_is : IsShelfOf closed active shelf
    pub ends : map highest shelf.book.closed ≡ ends_behind 0 closed
    pub keeper : Stands seen may_leave kept closed active
    pub others : OthersStay (log_of (length closed)) (seen old) (seen kept.disk)
    pub durable : IsDurableBelow (length closed + 1) (seen kept.disk) (may_leave kept.disk)
