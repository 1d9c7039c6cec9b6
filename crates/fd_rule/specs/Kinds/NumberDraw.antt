-- Draw: the greatest number drawn is one more, and the seat has that number for its batch, in flight. The slot of its lane is
-- out with it.
use Rattle.std.specs.Prelude.{◌≡◌, ℕ, ◌+◌, ◌<◌, ◌^◌, true, false, List, [], ◌∷◌, ◌++◌, length, slice_set}
use mathlib.Core.Option.{none}
use Rattle.atomic_table.specs.Table.{Step}
use Rattle.fd_kinds.specs.declared.row.Row.{Row}
use Rattle.fd_kinds.specs.History.{IsSmall}
use Rattle.fd_rule.specs.Lists.{Tops}
use Rattle.fd_rule.specs.Tables.{TableState, Seated, Sits, after, word}
use Rattle.fd_rule.specs.View.{View, Draws}
use Rattle.fd_rule.specs.declared.slot.SlotValue.{SlotValue}
use Rattle.fd_rule.specs.declared.slot.SlotValue.TheVariants.{Empty}

-- The seat is cleared to draw, has nothing in flight, and knows that its lane is empty.
pub record MayDraw (d : Draws) : Type 0 where
  pub cleared : d.cleared ≡ true
  pub empty : d.empty ≡ true
  pub landed : d.flight ≡ 0

abbrev pub with_number : ℕ → List Row → View → View
with_number n rows v = record v { draws = record v.draws { cleared = false; flight = n; batch = rows; own = v.draws.own ++ record { number = n; rows = rows } ∷ [] } }

-- The number is above each that the seat drew, and above the history that it has seen.
abbrev pub told : {P : Type 0} → List Row → Step (SlotValue P) → Seated P → ℕ → Seated P → Type 0
told rows st m r m' = (m' ≡ (with_number (r + 1) rows m.0, (1 + m.0.place.number, Empty) ∷ m.1)) × (r + 1 < 2 ^ 63) × Tops (r + 1) m.0.draws.own × (length m.0.seen.history < r + 1)

-- the step on the table
pub record Happens {P : Type 0} (rows : List Row) (id : ℕ) (s t : TableState P) : Type 0 where
  pub view : View
  pub sits : Sits s id view
  pub may : MayDraw view.draws
  pub small : IsSmall rows
  pub becomes : t ≡ after s 0 (word s 0 + 1) (slice_set s.homes (1 + id) none) id (with_number (word s 0 + 1) rows view)
