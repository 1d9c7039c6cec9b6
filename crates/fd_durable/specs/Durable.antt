-- What a crash leaves while a store is written to, by one call or by many.
use Rattle.std.specs.Prelude.{◌≡◌, ◌⊎◌, ◌↔◌, ℕ, Bool, false, List, [], ◌∷◌, ◌++◌, Result, Ok, Err}
use Rattle.fd_kinds.specs.declared.row.Row.{Row}
use Rattle.fd_kinds.specs.declared.query.Query.{Query}
use Rattle.fd_kinds.specs.declared.stand.Stand.{Stand}
use Rattle.fd_kinds.specs.declared.store.Seen.{Seen}
use Rattle.fd_kinds.specs.declared.store.ReadRefusal.{ReadRefusal}
use Rattle.fd_kinds.specs.declared.store.WriteRefusal.{WriteRefusal}
use Rattle.fd_kinds.specs.declared.store.WriteRefusal.TheVariants as write
use Rattle.fd_kinds.specs.History.{History, LocalView, history_of, Writes, Reads, Stands}
use Rattle.fd_kinds.specs.Stores.{Grows}
use Rattle.fd_device.specs.Disks.{Files, Settled}
use Rattle.fd_device.specs.Moments.{LeavesOnly}
use Rattle.fd_keeper.specs.Blocks.{RecoversTo}

-- What contracts see of a store over a disk: what they see of one in memory, its disk, and whether a call met a fault of
-- that.
pub record Held (D : Type 0) : Type 0 where
  pub local : LocalView
  pub disk : D
  pub failed : Bool

abbrev pub held_history : {D : Type 0} → Held D → History
held_history held = history_of held.local

-- the files recover to a history that begins with one, and with which another begins
pub record Between (first last : History) (files : Files) : Type 0 where
  pub history : History
  pub recovers : RecoversTo history files
  pub begins : Grows first history
  pub ends : Grows history last

-- they recover to the whole of a history, or to it and what is pending
abbrev pub Whole : History → History → Files → Type 0
Whole whole pending files = RecoversTo whole files ⊎ RecoversTo (whole ++ pending) files

-- the batch of a write that met a fault of the disk is pending: a crash may leave it or not
abbrev pub pending_of : List Row → Result ℕ WriteRefusal → History
pending_of rows (Err write.DiskFault) = rows ∷ []
pending_of rows (Err (write.Spent drawn)) = []
pending_of rows (Err write.NoMemory) = []
pending_of rows (Ok number) = []

module _ {D : Type 0} (honest : D → Type 0) (seen : D → Files) (may_leave : D → Files → Type 0) (moment : D → ℕ) (left_since : D → ℕ → Files → Type 0) where
  -- From one state to another, by one call or by many: at every moment a crash leaves what recovers to a history between
  -- the old one and the new one with what is pending, and now to the whole new one, with what is pending or without.
  pub record Moved (old new : Held D) (pending : History) : Type 0 where
    pub healthy : old.failed ≡ false
    pub grows : Grows (held_history old) (held_history new)
    pub honesty : honest old.disk ↔ honest new.disk
    pub moments : honest old.disk → LeavesOnly moment left_since old.disk new.disk (Between (held_history old) (held_history new ++ pending))
    pub now : honest old.disk → (image : Files) → may_leave new.disk image → Whole (held_history new) pending image
    pub clean : new.failed ≡ false → pending ≡ []
    pub settled : honest old.disk → Settled (seen old.disk) (may_leave old.disk) → new.failed ≡ false → Settled (seen new.disk) (may_leave new.disk)

  -- that, or nothing was done
  abbrev pub Moves : Held D → Held D → History → Type 0
  Moves old new pending = ((new ≡ old) × (pending ≡ [])) ⊎ Moved old new pending

  -- a write: its numbers, and what a crash leaves of it
  pub record WritesThrough (old : Held D) (rows : List Row) (result : Result ℕ WriteRefusal) (new : Held D) : Type 0 where
    pub numbers : Writes old.local rows result new.local
    pub images : Moves old new (pending_of rows result)

  -- what leaves all as it was
  pub record ReadsThrough (old : Held D) (after : ℕ) (query : Query) (result : Result Seen ReadRefusal) (new : Held D) : Type 0 where
    pub numbers : Reads old.local after query result new.local
    pub same : new ≡ old

  pub record StandsThrough (old : Held D) (stand : Stand) (new : Held D) : Type 0 where
    pub numbers : Stands old.local stand new.local
    pub same : new ≡ old
