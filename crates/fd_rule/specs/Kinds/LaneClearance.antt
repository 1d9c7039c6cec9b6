-- Clear lane: the batch that the holder of the turn took out of a lane waits in the book in hand, and the lane is empty.
use Rattle.std.specs.Prelude.{◌≡◌, ℕ, ◌+◌, ◌*◌, true, ◌||◌, eqb, slice_set}
use mathlib.Core.Option.{some}
use Rattle.atomic_table.specs.Table.{Step, rest}
use Rattle.fd_kinds.specs.Stores.{Written}
use Rattle.fd_shelf.specs.Stragglers.{with_straggler}
use Rattle.fd_rule.specs.Tables.{TableState, Seated, Sits, after}
use Rattle.fd_rule.specs.View.{View, bare, laden}
use Rattle.fd_rule.specs.declared.slot.SlotValue.{SlotValue}
use Rattle.fd_rule.specs.declared.slot.SlotValue.TheVariants.{Empty}

abbrev pub with_cleared : ℕ → Written → View → View
with_cleared k b v = record v { turn = record v.turn { hand = bare; book = with_straggler b.number b.rows v.turn.book }; draws = record v.draws { empty = v.draws.empty || eqb k v.place.number } }

abbrev pub told : {P : Type 0} → Step (SlotValue P) → Seated P → ℕ → Seated P → Type 0
told st m r m' = (m'.0.place ≡ m.0.place) × (m'.0.pinning ≡ m.0.pinning) × ((k : ℕ) (b : Written) → st.word ≡ 2 * k + 5 → m.0.turn.hand ≡ laden k b → m' ≡ (with_cleared k b m.0, rest m.1))

-- the step on the table
pub record Happens {P : Type 0} (k id : ℕ) (s t : TableState P) : Type 0 where
  pub view : View
  pub sits : Sits s id view
  pub holds : view.turn.holds ≡ true
  pub batch : Written
  pub hand : view.turn.hand ≡ laden k batch
  pub becomes : t ≡ after s (2 * k + 5) 0 (slice_set s.homes (1 + k) (some Empty)) id (with_cleared k batch view)
