-- Leave: the seat gives up its pin.
use Rattle.std.specs.Prelude.{◌≡◌, ℕ, ◌+◌, ◌*◌}
use Rattle.atomic_table.specs.Table.{Step}
use Rattle.fd_rule.specs.Tables.{TableState, Seated, Sits, after}
use Rattle.fd_rule.specs.View.{View, IDLE, idle, settled}
use Rattle.fd_rule.specs.declared.slot.SlotValue.{SlotValue}

abbrev pub without_pin : View → View
without_pin v = record v { pinning = record v.pinning { state = idle } }

abbrev pub told : {P : Type 0} → Step (SlotValue P) → Seated P → ℕ → Seated P → Type 0
told st m r m' = m' ≡ (without_pin m.0, m.1)

-- the step on the table
pub record Happens {P : Type 0} (id : ℕ) (s t : TableState P) : Type 0 where
  pub view : View
  pub sits : Sits s id view
  pub pin : ℕ
  pub pinned : view.pinning.state ≡ settled pin
  pub becomes : t ≡ after s (2 * id + 6) IDLE s.homes id (without_pin view)
