-- A turn of a call: how it was taken, what is in hand, and what it was given back with.
use Rattle.std.specs.Prelude.{◌≡◌, ℕ, true, List, [], ◌∷◌, ◌++◌}
use Rattle.fd_shelf.specs.Books.{Book, Shelved}
use Rattle.fd_shelf.specs.Histories.{hist}
use Rattle.fd_rule.specs.Kinds.TurnTry.{Later, with_book}
use Rattle.fd_rule.specs.Lists.{In}
use Rattle.fd_rule.specs.Tables.{Seated}
use Rattle.fd_rule.specs.View.{View, Given, bare, settled}
use Rattle.fd_rule.specs.declared.slot.SlotValue.TheVariants.{Empty}
use Rattle.fd_pool.specs.Kept.{Kept}

-- the turn, with the shelf in hand, and no lane's part out
pub record InHand {P : Type 0} (shelf : Shelved) (m : Seated P) : Type 0 where
  pub holds : m.0.turn.holds ≡ true
  pub hand : m.0.turn.hand ≡ bare
  pub book : m.0.turn.book ≡ shelf.book
  pub mark : m.0.turn.mark ≡ shelf.mark
  pub slots : m.1 ≡ (0, Empty) ∷ []

abbrev pub with_refusals : List ℕ → View → View
with_refusals holders v = record v { tries = record v.tries { refused = v.tries.refused ++ holders } }

-- the turn was found with these holders, and then taken
pub record HasWaited {P : Type 0} (old : View) (shelf : Shelved) (m : Seated P) : Type 0 where
  pub busy : List ℕ
  pub me : m ≡ (with_book shelf (with_refusals busy old), (0, Empty) ∷ [])
  pub later : Later shelf (with_refusals busy old)

-- the turn was taken by a seat that has pinned a mark
pub record IsTaken {P : Type 0} (w : ℕ) (shelf : Shelved) (m : Seated P) : Type 0 where
  pub view : View
  pub pinned : view.pinning.state ≡ settled w
  pub loaded : In w view.seen.marks
  pub later : Later shelf view
  pub me : m ≡ (with_book shelf view, (0, Empty) ∷ [])

-- One turn was taken in the call, and given back as g. The seat has seen the history of its book, and knows the book.
pub record Turned (old : View) (g : Given) (new : View) : Type 0 where
  pub kept : Kept old new
  pub given : new.tries.given ≡ old.tries.given ++ g ∷ []
  pub seen : new.seen.history ≡ hist g.book g.mark
  pub others : List Book
  pub book : new.books ≡ g.book ∷ others
