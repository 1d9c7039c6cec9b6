-- Raise floor: the floor is at least l, which is at most the limit of a scan that has passed every seat.
use Rattle.std.specs.Prelude.{◌≡◌, ℕ, ◌≤◌, max}
use Rattle.atomic_table.specs.Table.{Step}
use Rattle.fd_rule.specs.Tables.{TableState, Seated, Sits, after, word}
use Rattle.fd_rule.specs.View.{View, Pinning}
use Rattle.fd_rule.specs.declared.slot.SlotValue.{SlotValue}

-- the scan has passed every seat, and its limit is at least l
pub record MayRaiseFloor (seats l : ℕ) (p : Pinning) : Type 0 where
  pub finished : p.next ≡ seats
  pub within : l ≤ p.limit

abbrev pub with_floor : ℕ → View → View
with_floor l v = record v { pinning = record v.pinning { raised = max v.pinning.raised l } }

abbrev pub told : {P : Type 0} → Step (SlotValue P) → Seated P → ℕ → Seated P → Type 0
told st m r m' = m' ≡ (with_floor st.first m.0, m.1)

-- the step on the table
pub record Happens {P : Type 0} (seats l id : ℕ) (s t : TableState P) : Type 0 where
  pub view : View
  pub sits : Sits s id view
  pub may : MayRaiseFloor seats l view.pinning
  pub becomes : t ≡ after s 4 (max (word s 4) l) s.homes id (with_floor l view)
