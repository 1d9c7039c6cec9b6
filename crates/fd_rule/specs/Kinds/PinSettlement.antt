-- Settle: the seat pins a mark that it has loaded since it arrived.
use Rattle.std.specs.Prelude.{◌≡◌, ℕ, ◌+◌, ◌*◌, List, [], ◌∷◌, ◌++◌}
use Rattle.atomic_table.specs.Table.{Step}
use Rattle.fd_rule.specs.Lists.{In}
use Rattle.fd_rule.specs.Tables.{TableState, Seated, Sits, after}
use Rattle.fd_rule.specs.View.{View, PinState, arriving, settled}
use Rattle.fd_rule.specs.declared.slot.SlotValue.{SlotValue}

-- w is a mark that the seat has loaded since it arrived
pub record MaySettle (w : ℕ) (state : PinState) : Type 0 where
  pub marks : List ℕ
  pub arrives : state ≡ arriving marks
  pub loaded : In w marks

abbrev pub with_pin : ℕ → View → View
with_pin w v = record v { pinning = record v.pinning { state = settled w; pins = v.pinning.pins ++ w ∷ [] } }

abbrev pub told : {P : Type 0} → Step (SlotValue P) → Seated P → ℕ → Seated P → Type 0
told st m r m' = m' ≡ (with_pin st.first m.0, m.1)

-- the step on the table
pub record Happens {P : Type 0} (w id : ℕ) (s t : TableState P) : Type 0 where
  pub view : View
  pub sits : Sits s id view
  pub may : MaySettle w view.pinning.state
  pub becomes : t ≡ after s (2 * id + 6) w s.homes id (with_pin w view)
