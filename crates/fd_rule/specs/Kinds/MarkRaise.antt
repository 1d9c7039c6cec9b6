-- Raise mark: the holder of the turn raises the mark to a number up to which the book in hand has every number.
use Rattle.std.specs.Prelude.{◌≡◌, ℕ, ◌<◌, ◌≤◌, true}
use Rattle.atomic_table.specs.Table.{Step}
use Rattle.fd_shelf.specs.Books.{all_parts}
use Rattle.fd_shelf.specs.Histories.{hist}
use Rattle.fd_shelf.specs.Numbers.{IsIn}
use Rattle.fd_rule.specs.Tables.{TableState, Seated, Sits, after}
use Rattle.fd_rule.specs.View.{View, TurnView}
use Rattle.fd_rule.specs.declared.slot.SlotValue.{SlotValue}

pub record MayRaise (mark : ℕ) (t : TurnView) : Type 0 where
  pub holds : t.holds ≡ true
  pub rises : t.mark ≤ mark
  pub held : (n : ℕ) → t.mark < n → n ≤ mark → IsIn n (all_parts t.book)

abbrev pub with_raised : ℕ → View → View
with_raised m v = record v { turn = record v.turn { mark = m }; seen = record v.seen { history = hist v.turn.book m } }

abbrev pub told : {P : Type 0} → Step (SlotValue P) → Seated P → ℕ → Seated P → Type 0
told st m r m' = m' ≡ (with_raised st.first m.0, m.1)

-- the step on the table
pub record Happens {P : Type 0} (mark id : ℕ) (s t : TableState P) : Type 0 where
  pub view : View
  pub sits : Sits s id view
  pub may : MayRaise mark view.turn
  pub becomes : t ≡ after s 1 mark s.homes id (with_raised mark view)
