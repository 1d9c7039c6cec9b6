-- Arrive: the seat is about to pin a mark.
use Rattle.std.specs.Prelude.{◌≡◌, ℕ, ◌+◌, ◌*◌, []}
use Rattle.atomic_table.specs.Table.{Step}
use Rattle.fd_rule.specs.Tables.{TableState, Seated, Sits, after}
use Rattle.fd_rule.specs.View.{View, idle, arriving}
use Rattle.fd_rule.specs.declared.slot.SlotValue.{SlotValue}

abbrev pub with_arrival : View → View
with_arrival v = record v { pinning = record v.pinning { state = arriving [] } }

abbrev pub told : {P : Type 0} → Step (SlotValue P) → Seated P → ℕ → Seated P → Type 0
told st m r m' = m' ≡ (with_arrival m.0, m.1)

-- the step on the table
pub record Happens {P : Type 0} (id : ℕ) (s t : TableState P) : Type 0 where
  pub view : View
  pub sits : Sits s id view
  pub idles : view.pinning.state ≡ idle
  pub becomes : t ≡ after s (2 * id + 6) 0 s.homes id (with_arrival view)
