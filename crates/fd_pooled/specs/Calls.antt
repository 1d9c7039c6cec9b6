-- What the calls of a store that many share do.
use Rattle.std.specs.Prelude.{◌≡◌, ◌⊎◌, ℕ, ◌<◌, ◌≤◌, List, [], ◌∷◌, ◌++◌, length, Result, Ok, Err}
use Rattle.fd_kinds.specs.declared.row.Row.{Row}
use Rattle.fd_kinds.specs.declared.query.Query.{Query}
use Rattle.fd_kinds.specs.declared.store.WriteRefusal.{WriteRefusal}
use Rattle.fd_kinds.specs.declared.store.WriteRefusal.TheVariants as write
use Rattle.fd_kinds.specs.declared.store.ReadRefusal.{ReadRefusal}
use Rattle.fd_kinds.specs.declared.store.ReadRefusal.TheVariants as read
use Rattle.fd_kinds.specs.declared.store.Seen.{Seen}
use Rattle.fd_kinds.specs.declared.stand.Stand.{Stand}
use Rattle.fd_kinds.specs.History.{upto}
use Rattle.fd_kinds.specs.Meaning.{meaning}
use Rattle.fd_shelf.specs.Histories.{in_row_order}
use Rattle.fd_rule.specs.Kinds.DrawnLoad.{LoadedDrawn, with_drawn}
use Rattle.fd_rule.specs.Kinds.MarkLoad.{Loaded, with_mark}
use Rattle.fd_rule.specs.Kinds.SyncedLoad.{LoadedSynced, with_synced}
use Rattle.fd_rule.specs.Lists.{AllUpto}
use Rattle.fd_rule.specs.View.{View}
use Rattle.fd_pool.specs.Kept.{Kept}
use Rattle.fd_pool.specs.Sweeps.{HasSwept}
use Rattle.fd_pool.specs.Writes.{Took, WasSpent}
use Rattle.fd_pool.specs.declared.sweeps.Sweep.{Sweep}
use Rattle.fd_pooled.specs.Pooling.{PooledView}
use Rattle.fd_pooled.specs.Steps.{Passes, IsUpto}

-- it is the same seat at the same table
pub record IsSame (old new : PooledView) : Type 0 where
  pub table : new.table ≡ old.table
  pub seats : new.seats ≡ old.seats

-- The lane of the seat became empty, one number was drawn for the batch, which landed, and then one sweep was tried.
pub record HasWritten (seats : ℕ) (old : View) (rows : List Row) (number : ℕ) (new : View) : Type 0 where
  pub sorted : in_row_order rows ≡ rows
  pub ready : View
  pub waited : Kept old ready
  pub landed : View
  pub took : Took ready rows number landed
  pub sweep : Sweep
  pub swept : HasSwept seats landed sweep new

-- The drawn number that was loaded left no number, and nothing was drawn.
pub record HasFoundSpent (old : View) (drawn : ℕ) (new : View) : Type 0 where
  pub ready : View
  pub waited : Kept old ready
  pub spent : WasSpent ready drawn new

abbrev pub HasWrittenOr : ℕ → View → List Row → Result ℕ WriteRefusal → View → Type 0
HasWrittenOr seats old rows (Ok number) new = HasWritten seats old rows number new
HasWrittenOr seats old rows (Err (write.Spent drawn)) new = HasFoundSpent old drawn new
HasWrittenOr seats old rows (Err write.NoMemory) new = Kept old new
HasWrittenOr seats old rows (Err write.DiskFault) new = ⊥

abbrev pub PooledWrites : PooledView → List Row → Result ℕ WriteRefusal → PooledView → Type 0
PooledWrites old rows result new = IsSame old new × HasWrittenOr old.seats old.view rows result new.view

-- A sweep of the call gave the turn back whole at a mark of at most w, or found the turn with another seat.
pub record IsFresh (seats : ℕ) (old : View) (w : ℕ) (new : View) : Type 0 where
  pub before : View
  pub begins : Passes old before
  pub sweep : Sweep
  pub after : View
  pub does : HasSwept seats before sweep after
  pub upto : IsUpto w sweep
  pub ends : Passes after new

-- The query was answered at the mark that was loaded last in the call, which is at least each that was loaded before, and is
-- the one that the call has pinned. The drawn number that was loaded allowed it.
pub record HasRead (seats : ℕ) (old : View) (after : ℕ) (query : Query) (seen : Seen) (new : View) : Type 0 where
  pub passes : Passes old new
  pub drawn : ℕ
  pub asked : new.seen.drawns ≡ old.seen.drawns ++ drawn ∷ []
  pub allowed : after ≤ drawn
  pub synceds : new.seen.synceds ≡ old.seen.synceds
  pub pins : new.pinning.pins ≡ old.pinning.pins ++ seen.watermark ∷ []
  pub before : List ℕ
  pub loaded : new.seen.marks ≡ old.seen.marks ++ (before ++ seen.watermark ∷ [])
  pub high : AllUpto seen.watermark old.seen.marks
  pub low : after ≤ seen.watermark
  pub reaches : seen.watermark ≤ length new.seen.history
  pub means : seen.answer ≡ meaning query (upto new.seen.history seen.watermark)
  pub fresh : IsFresh seats old seen.watermark new

-- the drawn number that was loaded is below the number that was asked for, and nothing else was done
pub record HasNotDrawn (old : View) (after drawn : ℕ) (new : View) : Type 0 where
  pub below : drawn < after
  pub loaded : LoadedDrawn drawn old
  pub becomes : new ≡ with_drawn drawn old

-- nothing was drawn, and one mark was pinned at most
pub record HasFailed (old : View) (after : ℕ) (new : View) : Type 0 where
  pub passes : Passes old new
  pub drawn : ℕ
  pub asked : new.seen.drawns ≡ old.seen.drawns ++ drawn ∷ []
  pub allowed : after ≤ drawn
  pub synceds : new.seen.synceds ≡ old.seen.synceds
  pub pins : (new.pinning.pins ≡ old.pinning.pins) ⊎ ((w : ℕ) × (new.pinning.pins ≡ old.pinning.pins ++ w ∷ []))

abbrev pub HasReadOr : ℕ → View → ℕ → Query → Result Seen ReadRefusal → View → Type 0
HasReadOr seats old after query (Ok seen) new = HasRead seats old after query seen new
HasReadOr seats old after query (Err (read.NotDrawn drawn)) new = HasNotDrawn old after drawn new
HasReadOr seats old after query (Err read.NoMemory) new = HasFailed old after new

abbrev pub PooledReads : PooledView → ℕ → Query → Result Seen ReadRefusal → PooledView → Type 0
PooledReads old after query result new = IsSame old new × HasReadOr old.seats old.view after query result new.view

-- the synced number was loaded, then the mark, then the drawn number
pub record HasStood (old : View) (stand : Stand) (new : View) : Type 0 where
  pub synced : LoadedSynced stand.synced old
  pub watermark : Loaded stand.watermark (with_synced stand.synced old)
  pub drawn : LoadedDrawn stand.drawn (with_mark stand.watermark (with_synced stand.synced old))
  pub becomes : new ≡ with_drawn stand.drawn (with_mark stand.watermark (with_synced stand.synced old))

abbrev pub PooledStands : PooledView → Stand → PooledView → Type 0
PooledStands old stand new = IsSame old new × HasStood old.view stand new.view
