-- Scan pin: the scan passes the next seat, and its limit is at most that seat's pin word.
use Rattle.std.specs.Prelude.{◌≡◌, ℕ, ◌+◌, ◌*◌, ◌<◌, min}
use Rattle.atomic_table.specs.Table.{Step}
use Rattle.fd_rule.specs.Tables.{TableState, Seated, Sits, after, word}
use Rattle.fd_rule.specs.View.{View}
use Rattle.fd_rule.specs.declared.slot.SlotValue.{SlotValue}

abbrev pub with_passed : ℕ → View → View
with_passed pin v = record v { pinning = record v.pinning { limit = min v.pinning.limit pin; next = v.pinning.next + 1 } }

abbrev pub told : {P : Type 0} → Step (SlotValue P) → Seated P → ℕ → Seated P → Type 0
told st m r m' = m' ≡ (with_passed r m.0, m.1)

-- the step on the table
pub record Happens {P : Type 0} (seats id : ℕ) (s t : TableState P) : Type 0 where
  pub view : View
  pub sits : Sits s id view
  pub inside : view.pinning.next < seats
  pub becomes : t ≡ after s (2 * view.pinning.next + 6) (word s (2 * view.pinning.next + 6)) s.homes id (with_passed (word s (2 * view.pinning.next + 6)) view)
