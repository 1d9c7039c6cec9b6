-- What the calls of a pool keep of what a seat knows.
use Rattle.std.specs.Prelude.{◌≡◌, ℕ, false, List, [], ◌∷◌, ◌++◌}
use Rattle.fd_kinds.specs.History.{History}
use Rattle.fd_kinds.specs.Stores.{Grows, Holds, Written}
use Rattle.fd_shelf.specs.Books.{Book}
use Rattle.fd_shelf.specs.Histories.{in_row_order}
use Rattle.fd_rule.specs.Tables.{Seated}
use Rattle.fd_rule.specs.View.{View, Given, Knowledge}

-- the seat has no turn, no slot and no number in flight
pub record IsFree {P : Type 0} (m : Seated P) : Type 0 where
  pub turn : m.0.turn.holds ≡ false
  pub flight : m.0.draws.flight ≡ 0
  pub slots : m.1 ≡ []

abbrev pub with_history : History → Knowledge → Knowledge
with_history history k = record k { history = history }

-- batches, each in the row order
abbrev pub in_order : List Written → List Written
in_order [] = []
in_order (o ∷ os) = record { number = o.number; rows = in_row_order o.rows } ∷ in_order os

-- What the seat drew stands at its number in the history that the seat has seen, where that reaches the number.
abbrev pub HasDrawn : View → Type 0
HasDrawn v = Holds v.seen.history (in_order v.draws.own)

-- A call that draws and loads nothing: the seen history grows and all else that was loaded stays; the own numbers with their
-- batches stay, and where the seen history had them, as far as it reached, so has the new one; each book that the seat knew
-- it still knows, and so what the rule says that later books keep of it; turns that were given back and holders that were
-- found come last.
pub record Kept (old new : View) : Type 0 where
  pub grows : Grows old.seen.history new.seen.history
  pub seen : new.seen ≡ with_history new.seen.history old.seen
  pub own : new.draws.own ≡ old.draws.own
  pub holds : HasDrawn old → HasDrawn new
  pub known : List Book
  pub books : new.books ≡ known ++ old.books
  pub turns : List Given
  pub given : new.tries.given ≡ old.tries.given ++ turns
  pub busy : List ℕ
  pub refused : new.tries.refused ≡ old.tries.refused ++ busy
  pub place : new.place ≡ old.place
  pub pinning : new.pinning ≡ old.pinning
