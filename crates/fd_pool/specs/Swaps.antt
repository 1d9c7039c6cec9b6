-- A part in place of others.
use Rattle.std.specs.Prelude.{◌≡◌, ℕ, ◌+◌, length}
use Rattle.fd_kinds.specs.Parts.{PartMeaning}
use Rattle.fd_shelf.specs.Books.{Shelved}
use Rattle.fd_shelf.specs.Books.{Each as AllOf}
use Rattle.fd_shelf.specs.Histories.{hist}
use Rattle.fd_shelf.specs.Marks.{IsBook}
use Rattle.fd_shelf.specs.Numbers.{Keeps, first_loose}
use Rattle.fd_shelf.specs.Replacement.{HandsBack, replaced}
use Rattle.fd_shelf.specs.declared.replacement.NotReplaced.{NotReplaced}
use Rattle.fd_rule.specs.View.{Given, View}

-- The part may stand in the active block of the shelf: its range begins with the first number there that is in no sealed
-- part, with it there that first number follows the range, and the history stays.
pub record Stands (block lo hi : ℕ) (part : PartMeaning) (shelf : Shelved) : Type 0 where
  pub active : block ≡ length shelf.book.closed
  pub first : first_loose shelf ≡ lo
  pub now : first_loose (replaced part shelf) ≡ hi + 1
  pub history : (m : ℕ) → hist (replaced part shelf).book m ≡ hist shelf.book m

-- the book that was given back is another with the part in its place
pub record HasSwapped (block lo hi : ℕ) (part : PartMeaning) (g : Given) : Type 0 where
  pub shelf : Shelved
  pub stands : Stands block lo hi part shelf
  pub mark : g.mark ≡ shelf.mark
  pub book : g.book ≡ (replaced part shelf).book

-- The part was handed back for what stands against it in a book in order, which keeps what it should of each that the seat
-- knew.
pub record HasRefused {P : Type 0} (old : View) (block lo hi : ℕ) (part : P) (why : NotReplaced P) (g : Given) : Type 0 where
  pub order : IsBook g.book g.mark
  pub known : AllOf (λ book. Keeps book g.book) old.books
  pub back : HandsBack g.book block lo hi part why
