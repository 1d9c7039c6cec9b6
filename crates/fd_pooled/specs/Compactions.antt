-- What a compaction beside writers and readers does.
use Rattle.std.specs.Prelude.{◌≡◌, ◌≢◌, ℕ, ◌+◌, ◌-◌, ◌<◌, ◌≤◌, List, ◌∷◌, length}
use Rattle.fd_kinds.specs.Parts.{PartMeaning}
use Rattle.fd_shelf.specs.Books.{Book}
use Rattle.fd_shelf.specs.Books.{Each as AllOf}
use Rattle.fd_shelf.specs.Marks.{IsBook}
use Rattle.fd_shelf.specs.Numbers.{Keeps}
use Rattle.fd_shelf.specs.Replacement.{IsChanged, IsLeast}
use Rattle.fd_shelf.specs.Steps.{Placed, level0, loose_upto}
use Rattle.fd_compact.specs.Runs.{IsSealOf}
use Rattle.fd_compact.specs.declared.compaction.Compaction.{Compaction}
use Rattle.fd_compact.specs.declared.compaction.Compaction.TheVariants.{Compacted, Nothing, Overtaken, Changed}
use Rattle.fd_rule.specs.Kinds.FloorRaise.{with_floor}
use Rattle.fd_rule.specs.Kinds.TurnReturn.{active_block, first_loose}
use Rattle.fd_rule.specs.View.{View, Given}
use Rattle.fd_pins.specs.Scans.{IsScan}
use Rattle.fd_pool.specs.Lists.{IsRun, SeenRows}
use Rattle.fd_pool.specs.Swaps.{HasSwapped}
use Rattle.fd_pool.specs.Turns.{Turned}

-- One scan of all pins, to whose limit the floor was raised, and then one turn, which was given back as g. The limit is at
-- most the mark of that turn.
pub record HasListedRun (seats : ℕ) (old : View) (l : ℕ) (g : Given) (listed : View) : Type 0 where
  pub scanned : View
  pub scan : IsScan seats old l scanned
  pub turned : Turned (with_floor l scanned) g listed
  pub low : l ≤ g.mark

-- how many numbers there are from the first that no sealed part holds up to the limit
abbrev pub run_length : Given → ℕ → ℕ
run_length g l = (l + 1) - first_loose g

-- One sealed part was made of the loose parts from the first number that no sealed part holds up to the limit, two or more,
-- with all their rows in order, which the seat has seen so. Another turn was taken for it, and given back as h.
pub record HasSealed (l : ℕ) (g : Given) (listed : View) (part : PartMeaning) (h : Given) (new : View) : Type 0 where
  pub some : 2 ≤ run_length g l
  pub seals : IsSealOf (loose_upto g.book l) part
  pub lo : part.lo ≡ first_loose g
  pub hi : part.hi ≡ l
  pub seen : SeenRows listed.seen.history part
  pub turned : Turned listed h new

-- The sealed part stands in the book that was given back last.
pub record PutSealed (l : ℕ) (g : Given) (listed : View) (lo hi rows : ℕ) (new : View) : Type 0 where
  pub part : PartMeaning
  pub h : Given
  pub sealed : HasSealed l g listed part h new
  pub first : lo ≡ first_loose g
  pub last : hi ≡ l
  pub count : rows ≡ length part.rows
  pub stands : HasSwapped (active_block g) lo hi part h

-- Another block, above the one of the parts, was the active one in the turn that was given back last.
pub record WasOvertaken (l : ℕ) (g : Given) (listed : View) (block : ℕ) (new : View) : Type 0 where
  pub part : PartMeaning
  pub h : Given
  pub sealed : HasSealed l g listed part h new
  pub active : block ≡ active_block h
  pub above : active_block g < block

-- The active block was the same, but the first number of the parts was sealed in the turn that was given back last.
pub record WasChanged (l : ℕ) (g : Given) (listed : View) (at : ℕ) (new : View) : Type 0 where
  pub part : PartMeaning
  pub h : Given
  pub sealed : HasSealed l g listed part h new
  pub same : active_block h ≡ active_block g
  pub first : at ≡ first_loose g
  pub later : first_loose g < first_loose h

-- there were fewer than two numbers, and nothing else was done
pub record FoundFew (l : ℕ) (g : Given) (listed : View) (parts : ℕ) (new : View) : Type 0 where
  pub few : parts < 2
  pub count : parts ≡ run_length g l
  pub becomes : new ≡ listed

abbrev pub Ends : ℕ → Given → View → Compaction → View → Type 0
Ends l g listed (Nothing parts) new = FoundFew l g listed parts new
Ends l g listed (Compacted lo hi rows) new = PutSealed l g listed lo hi rows new
Ends l g listed (Overtaken block) new = WasOvertaken l g listed block new
Ends l g listed (Changed at) new = WasChanged l g listed at new

pub record HasCompacted (seats : ℕ) (old : View) (done : Compaction) (new : View) : Type 0 where
  pub l : ℕ
  pub g : Given
  pub listed : View
  pub lists : HasListedRun seats old l g listed
  pub ends : Ends l g listed done new

-- what the seat knows of the parts that it has listed
pub record HasRun (l : ℕ) (g : Given) (placed : List Placed) (parts : List PartMeaning) (v : View) : Type 0 where
  pub low : l ≤ g.mark
  pub place : placed ≡ level0 g.book l
  pub those : parts ≡ loose_upto g.book l
  pub run : IsRun g l v.seen.history
  pub others : List Book
  pub book : v.books ≡ g.book ∷ others

-- What became of a sealed part for these numbers of a block.
pub record WasPut (block lo hi : ℕ) (part : PartMeaning) (old new : View) : Type 0 where
  pub h : Given
  pub turned : Turned old h new
  pub stands : HasSwapped block lo hi part h

pub record WasNotPut (old : View) (Why : Book → Type 0) (new : View) : Type 0 where
  pub h : Given
  pub turned : Turned old h new
  pub order : IsBook h.book h.mark
  pub known : AllOf (λ book. Keeps book h.book) old.books
  pub why : Why h.book

abbrev pub Puts : ℕ → ℕ → ℕ → ℕ → PartMeaning → View → Compaction → View → Type 0
Puts block lo hi rows part old (Compacted first last count) new = (first ≡ lo) × (last ≡ hi) × (count ≡ rows) × WasPut block lo hi part old new
Puts block lo hi rows part old (Overtaken active) new = WasNotPut old (λ book. (block ≢ length book.closed) × (active ≡ length book.closed)) new
Puts block lo hi rows part old (Changed at) new = WasNotPut old (λ book. (block ≡ length book.closed) × IsLeast (IsChanged lo hi book.active) at) new
Puts block lo hi rows part old (Nothing parts) new = ⊥
