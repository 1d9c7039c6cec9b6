-- The table as it is written down: its words, its slots, and what one step on a word makes of it.
--
-- Word 0 is the greatest number drawn, word 1 the mark, word 2 the turn, word 3 the greatest number reported synced, word 4
-- the floor, word 2 k + 5 the lane of seat k and word 2 k + 6 its pin. Slot 0 is the shelf's, slot k + 1 that of lane k.
use Rattle.std.specs.Prelude.{◌≡◌, ℕ, zero, suc, false, List, [], ◌∷◌, slice_index, slice_set}
use mathlib.Core.Option.{Option, some}
use lib.ListN.{get_elem?}
use Rattle.atomic_table.specs.Table.{State, Me}
use Rattle.fd_rule.specs.View.{View}
use Rattle.fd_rule.specs.declared.slot.SlotValue.{SlotValue}
use Rattle.fd_rule.specs.declared.slot.SlotValue.TheVariants.{Empty}

-- the table with the views of all seats
abbrev pub TableState : Type 0 → Type 0
TableState P = State (SlotValue P) View

-- a seat's view, and the slots that it holds, each with its value
abbrev pub Seated : Type 0 → Type 0
Seated P = Me (SlotValue P) View

-- the slots that are at home, each with its value
abbrev pub Homes : Type 0 → Type 0
Homes P = List (Option (SlotValue P))

abbrev pub word : {P : Type 0} → TableState P → ℕ → ℕ
word s i = slice_index s.words i

-- so many empty lanes
abbrev pub empties : {P : Type 0} → ℕ → List (SlotValue P)
empties zero = []
empties (suc n) = Empty ∷ empties n

-- The seat at this place of the views has this view, and no seat has joined it.
pub record Sits {P : Type 0} (s : TableState P) (id : ℕ) (v : View) : Type 0 where
  pub at : get_elem? s.views id ≡ some v
  pub live : v.place.spent ≡ false

-- the table after one step: word i is n, these slots are at home, and the seat's view is w
abbrev pub after : {P : Type 0} → TableState P → ℕ → ℕ → Homes P → ℕ → View → TableState P
after s i n homes id w = record { words = slice_set s.words i n; homes = homes; views = slice_set s.views id w }
