-- Land: the number in flight stands in the seat's lane word, and its part in the slot of the lane.
use Rattle.std.specs.Prelude.{◌≡◌, ◌≢◌, ℕ, ◌+◌, ◌*◌, false, [], slice_set}
use mathlib.Core.Option.{some}
use Rattle.atomic_table.specs.Table.{Step, rest}
use Rattle.fd_kinds.specs.Parts.{PartMeaning, loose_part}
use Rattle.fd_rule.specs.Tables.{TableState, Seated, Sits, after}
use Rattle.fd_rule.specs.View.{View, Draws}
use Rattle.fd_rule.specs.declared.slot.SlotValue.{SlotValue}
use Rattle.fd_rule.specs.declared.slot.SlotValue.TheVariants.{Landed}

-- A number is in flight, and the part has it, with the rows of its batch.
pub record MayLand (landed : PartMeaning) (d : Draws) : Type 0 where
  pub flight : d.flight ≢ 0
  pub part : landed ≡ loose_part d.flight d.batch

abbrev pub with_landed : View → View
with_landed v = record v { draws = record v.draws { empty = false; flight = 0; batch = [] } }

abbrev pub told : {P : Type 0} → Step (SlotValue P) → Seated P → ℕ → Seated P → Type 0
told st m r m' = m' ≡ (with_landed m.0, rest m.1)

-- the step on the table
pub record Happens {P : Type 0} (means : P → PartMeaning) (part : P) (id : ℕ) (s t : TableState P) : Type 0 where
  pub view : View
  pub sits : Sits s id view
  pub may : MayLand (means part) view.draws
  pub becomes : t ≡ after s (2 * id + 5) view.draws.flight (slice_set s.homes (1 + id) (some (Landed part))) id (with_landed view)
