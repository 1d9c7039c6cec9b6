-- Announce: seat 0 reports a number as synced that is at most a mark which it has loaded, and at least the one before.
use Rattle.std.specs.Prelude.{◌≡◌, ℕ, ◌≤◌}
use Rattle.atomic_table.specs.Table.{Step}
use Rattle.fd_rule.specs.Lists.{In}
use Rattle.fd_rule.specs.Tables.{TableState, Seated, Sits, after}
use Rattle.fd_rule.specs.View.{View}
use Rattle.fd_rule.specs.declared.slot.SlotValue.{SlotValue}

-- The seat has the number 0, and n lies between what it has announced and a mark that it has loaded.
pub record MayAnnounce (n : ℕ) (v : View) : Type 0 where
  pub number : v.place.number ≡ 0
  pub rises : v.seen.announced ≤ n
  pub mark : ℕ
  pub loaded : In mark v.seen.marks
  pub within : n ≤ mark

abbrev pub with_announced : ℕ → View → View
with_announced n v = record v { seen = record v.seen { announced = n } }

abbrev pub told : {P : Type 0} → Step (SlotValue P) → Seated P → ℕ → Seated P → Type 0
told st m r m' = m' ≡ (with_announced st.first m.0, m.1)

-- the step on the table
pub record Happens {P : Type 0} (n id : ℕ) (s t : TableState P) : Type 0 where
  pub view : View
  pub sits : Sits s id view
  pub may : MayAnnounce n view
  pub becomes : t ≡ after s 3 n s.homes id (with_announced n view)
