-- Passes that are taken in one after the other, and the end of a table whose seats are all one.
use Rattle.std.specs.Prelude.{◌≡◌, ◌⊎◌, ℕ, ◌<◌, ◌≤◌, true, List, [], ◌∷◌, ◌++◌}
use Rattle.fd_kinds.specs.History.{History}
use Rattle.fd_kinds.specs.Stores.{Written, Grows}
use Rattle.fd_shelf.specs.Books.{Book, Shelved, all_parts}
use Rattle.fd_shelf.specs.Books.{Each as AllOf}
use Rattle.fd_shelf.specs.Histories.{hist, batch_at, in_row_order}
use Rattle.fd_shelf.specs.Numbers.{Keeps}
use Rattle.fd_rule.specs.Rule.{count_of}
use Rattle.fd_rule.specs.View.{View}
use Rattle.fd_pool.specs.Finishes.{IsRested}

-- a seat that got up and knows that its lane is empty
pub record IsReady (v : View) : Type 0 where
  pub rested : IsRested v
  pub empty : v.draws.empty ≡ true

abbrev pub owns_of : List View → List Written
owns_of [] = []
owns_of (v ∷ vs) = owns_of vs ++ v.draws.own

abbrev pub books_of : List View → List Book
books_of [] = []
books_of (v ∷ vs) = books_of vs ++ v.books

abbrev pub numbers_of : List View → List ℕ
numbers_of [] = []
numbers_of (v ∷ vs) = numbers_of vs ++ v.place.number ∷ v.place.joined

abbrev pub IsOneOf : History → List History → Type 0
IsOneOf h [] = ⊥
IsOneOf h (x ∷ xs) = (h ≡ x) ⊎ IsOneOf h xs

-- the history is the view's, or that of one that it took in
abbrev pub HasSeen : History → View → Type 0
HasSeen h v = IsOneOf h (v.seen.history ∷ v.seen.others)

-- the view has what all of these have
pub record Gathers (vs : List View) (v : View) : Type 0 where
  pub ready : IsReady v
  pub own : v.draws.own ≡ owns_of vs
  pub books : v.books ≡ books_of vs
  pub numbers : v.place.number ∷ v.place.joined ≡ numbers_of vs
  pub seen : AllOf (λ u. HasSeen u.seen.history v) vs

-- what holds of the shelf at the end, against one seat that is all seats
pub record IsEnded (start : Shelved) (v : View) (shelf : Shelved) : Type 0 where
  pub began : Grows (hist start.book start.mark) (hist shelf.book shelf.mark)
  pub seen : Grows v.seen.history (hist shelf.book shelf.mark)
  pub others : AllOf (λ h. Grows h (hist shelf.book shelf.mark)) v.seen.others
  pub once : (n : ℕ) → start.mark < n → n ≤ shelf.mark → count_of n v.draws.own ≡ 1
  pub inside : AllOf (λ o. (start.mark < o.number) × (o.number ≤ shelf.mark)) v.draws.own
  pub rows : AllOf (λ o. batch_at (all_parts shelf.book) o.number ≡ in_row_order o.rows) v.draws.own
  pub kept : AllOf (λ b. Keeps b shelf.book) v.books
  pub alone : shelf.book.stragglers ≡ []
