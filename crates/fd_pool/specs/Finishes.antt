-- A pool that is finished.
use Rattle.std.specs.Prelude.{◌≡◌, ℕ, zero, suc, ◌+◌, ◌<◌, ◌≤◌, Bool, false, ◌||◌, if◌then◌else◌, eqb, List, [], ◌∷◌}
use Rattle.fd_kinds.specs.Stores.{Grows}
use Rattle.fd_shelf.specs.Books.{Shelved, all_parts}
use Rattle.fd_shelf.specs.Books.{Each as AllOf}
use Rattle.fd_shelf.specs.Histories.{hist, batch_at, in_row_order}
use Rattle.fd_shelf.specs.Numbers.{Keeps}
use Rattle.fd_rule.specs.Rule.{sum, owns}
use Rattle.fd_rule.specs.View.{View, idle}
use Rattle.fd_rule.specs.declared.pass.Pass.{Pass}
use Rattle.fd_pool.specs.declared.endings.NotFinished.{NotFinished}
use Rattle.fd_pool.specs.declared.endings.NotFinished.TheVariants.{Missing, NoMemory}
use Rattle.fd_pool.specs.declared.pool.Pool.{Pool}
use Rattle.fd_pool.specs.Kept.{Kept}
use Rattle.fd_pool.specs.Pools.{ArePassesOf, pool_seats, views_of}

-- one of the views has the seat's number
abbrev pub has_number : ℕ → List View → Bool
has_number k [] = false
has_number k (v ∷ vs) = eqb v.place.number k || has_number k vs

-- how many of the first seats have no view here
abbrev pub absent_of : ℕ → List View → ℕ
absent_of zero vs = 0
absent_of (suc k) vs = absent_of k vs + (if has_number k vs then 0 else 1)

-- a seat that got up: it has no turn, nothing in flight and no pin
pub record IsRested (v : View) : Type 0 where
  pub turn : v.turn.holds ≡ false
  pub flight : v.draws.flight ≡ 0
  pub idles : v.pinning.state ≡ idle

-- each seat keeps what it should
abbrev pub AllKept : List View → List View → Type 0
AllKept [] [] = Unit {0}
AllKept [] (w ∷ ws) = ⊥
AllKept (v ∷ vs) [] = ⊥
AllKept (v ∷ vs) (w ∷ ws) = Kept v w × AllKept vs ws

-- The shelf's history begins with the opening one, and with what each seat has seen. Each number behind the opening mark was
-- drawn by one seat, once, its batch is the history's, and no seat drew another number. The book keeps what it should of each
-- book that a seat knows.
pub record IsFinished (start : Shelved) (vs : List View) (shelf : Shelved) : Type 0 where
  pub began : Grows (hist start.book start.mark) (hist shelf.book shelf.mark)
  pub once : (n : ℕ) → start.mark < n → n ≤ shelf.mark → sum (owns n) vs ≡ 1
  pub inside : AllOf (λ v. AllOf (λ o. (start.mark < o.number) × (o.number ≤ shelf.mark)) v.draws.own) vs
  pub rows : AllOf (λ v. AllOf (λ o. batch_at (all_parts shelf.book) o.number ≡ in_row_order o.rows) v.draws.own) vs
  pub seen : AllOf (λ v. Grows v.seen.history (hist shelf.book shelf.mark)) vs
  pub kept : AllOf (λ v. AllOf (λ b. Keeps b shelf.book) v.books) vs
  pub alone : shelf.book.stragglers ≡ []

-- Passes are missing, so many, and all come back; or none is, and pool and passes come back after sweeps at most.
abbrev pub IsUnfinished : {P : Type 0} → Pool P → List Pass → NotFinished P → Type 0
IsUnfinished pool passes (Missing same back absent) = (same ≡ pool) × (back ≡ passes) × (absent ≡ absent_of (pool_seats pool) (views_of passes)) × (0 < absent)
IsUnfinished pool passes (NoMemory same back) = (same ≡ pool) × (absent_of (pool_seats pool) (views_of passes) ≡ 0) × ArePassesOf pool back × AllOf IsRested (views_of back) × AllKept (views_of passes) (views_of back)
