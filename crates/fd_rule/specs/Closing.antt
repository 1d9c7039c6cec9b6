-- The shelf of a table that has ended, where one seat has the numbers of all.
use Rattle.std.specs.Prelude.{◌≡◌, ℕ, ◌<◌, ◌≤◌}
use Rattle.fd_kinds.specs.Stores.{Grows}
use Rattle.fd_shelf.specs.Books.{Shelved, all_parts}
use Rattle.fd_shelf.specs.Books.{Each as AllOf}
use Rattle.fd_shelf.specs.Histories.{hist, batch_at, in_row_order}
use Rattle.fd_shelf.specs.Numbers.{IsIn, Keeps}
use Rattle.fd_rule.specs.View.{View}
use Rattle.fd_rule.specs.Rule.{count_of}

-- Every number above the opening mark and up to the last drawn was drawn once by the seat, and its batch is in the book. The
-- histories that seats have seen begin the shelf's, and its book keeps what it should of those that they know.
pub record IsClosed (start : Shelved) (v : View) (shelf : Shelved) : Type 0 where
  pub drawn : ℕ
  pub began : Grows (hist start.book start.mark) (hist shelf.book shelf.mark)
  pub seen : Grows v.seen.history (hist shelf.book shelf.mark)
  pub others : AllOf (λ h. Grows h (hist shelf.book shelf.mark)) v.seen.others
  pub low : start.mark ≤ shelf.mark
  pub once : (n : ℕ) → start.mark < n → n ≤ drawn → count_of n v.draws.own ≡ 1
  pub above : AllOf (λ o. start.mark < o.number) v.draws.own
  pub inside : AllOf (λ o. IsIn o.number (all_parts shelf.book)) v.draws.own
  pub rows : AllOf (λ o. batch_at (all_parts shelf.book) o.number ≡ in_row_order o.rows) v.draws.own
  pub held : (n : ℕ) → IsIn n (all_parts shelf.book) → n ≤ drawn
  pub kept : AllOf (λ b. Keeps b shelf.book) v.books
