-- Give turn: the shelf goes home, with the mark and the numbers of the book in hand, and what later books keep of it.
use Rattle.std.specs.Prelude.{◌≡◌, ◌⊎◌, ℕ, ◌+◌, ◌<◌, ◌≤◌, true, List, [], ◌∷◌, ◌++◌, length, slice_set}
use mathlib.Core.Option.{some}
use Rattle.atomic_table.specs.Table.{Step, rest}
use Rattle.fd_shelf.specs.Books.{Book, Shelved, all_parts}
use Rattle.fd_shelf.specs.Marks.{IsBook}
use Rattle.fd_shelf.specs.Histories.{hist}
use Rattle.fd_shelf.specs.Numbers.{IsIn, IsInSealed, Keeps, first_unsealed}
use Rattle.fd_shelf.specs.Steps.{empty_book}
use Rattle.fd_rule.specs.Lists.{In, AllHeld, AllAsDrawn}
use Rattle.fd_rule.specs.Tables.{TableState, Seated, Sits, after}
use Rattle.fd_rule.specs.View.{View, Given, no_turn, bare}
use Rattle.fd_rule.specs.declared.slot.SlotValue.{SlotValue}
use Rattle.fd_rule.specs.declared.slot.SlotValue.TheVariants.{Empty, Home, Landed}

-- the same numbers with the same rows
pub record SameRows (old new : Book) : Type 0 where
  pub history : (m : ℕ) → hist new m ≡ hist old m
  pub forth : (n : ℕ) → IsIn n (all_parts old) → IsIn n (all_parts new)
  pub back : (n : ℕ) → IsIn n (all_parts new) → IsIn n (all_parts old)

-- no number is newly sealed but those up to a limit
abbrev pub SealsUpto : ℕ → Book → Book → Type 0
SealsUpto limit old new = (n : ℕ) → IsInSealed n (all_parts new) → IsInSealed n (all_parts old) ⊎ (n ≤ limit)

-- The turn is held, no part is out of a lane, and the shelf has the mark and the numbers of the book in hand. What the seat
-- has sealed is at most what it has raised the floor to.
pub record MayReturn (shelf : Shelved) (v : View) : Type 0 where
  pub holds : v.turn.holds ≡ true
  pub hand : v.turn.hand ≡ bare
  pub mark : shelf.mark ≡ v.turn.mark
  pub rows : SameRows v.turn.book shelf.book
  pub keeps : Keeps v.turn.book shelf.book
  pub sealed : SealsUpto v.pinning.raised v.turn.book shelf.book

abbrev pub given_of : Book → View → Given
given_of book v = record { mark = v.turn.mark; book = book; looked = v.turn.looked; own = v.draws.own; flight = v.draws.flight }

abbrev pub with_given : Book → View → View
with_given book v = record v { turn = no_turn; tries = record v.tries { given = v.tries.given ++ given_of book v ∷ [] }; books = book ∷ v.books }

-- the active block of a turn that was given back, and the first number of it that no sealed part holds
abbrev pub active_block : Given → ℕ
active_block g = length g.book.closed

abbrev pub first_loose : Given → ℕ
first_loose g = first_unsealed (g.mark + 1) g.book.active

-- A turn was given back whole: every lane was looked at in it, all landed numbers of the seat are in the book, and the number
-- after the mark is not. (What was found in a lane is in the book, since no part is out of a lane.)
pub record IsWhole (seats : ℕ) (g : Given) : Type 0 where
  pub lanes : (k : ℕ) → k < seats → In k g.looked
  pub own : AllHeld g.flight g.book g.own
  pub gap : IsIn (g.mark + 1) (all_parts g.book) → ⊥

-- the book of the shelf that was taken last
abbrev pub book_in : {P : Type 0} → List (ℕ × SlotValue P) → Book
book_in [] = empty_book
book_in ((k, Home b) ∷ xs) = b.book
book_in ((k, Empty) ∷ xs) = empty_book
book_in ((k, Landed p) ∷ xs) = empty_book

-- Where the seat knows its lane empty, its landed numbers are in the book; and each of its numbers that is there has the rows
-- that it was drawn for.
abbrev pub told : {P : Type 0} → Step (SlotValue P) → Seated P → ℕ → Seated P → Type 0
told st m r m' = (m' ≡ (with_given (book_in m.1) m.0, rest m.1)) × (m.0.draws.empty ≡ true → AllHeld m.0.draws.flight (book_in m.1) m.0.draws.own) × AllAsDrawn (book_in m.1) m.0.draws.own

-- the step on the table
pub record Happens {P : Type 0} (shelf : Shelved) (id : ℕ) (s t : TableState P) : Type 0 where
  pub view : View
  pub sits : Sits s id view
  pub order : IsBook shelf.book shelf.mark
  pub may : MayReturn shelf view
  pub becomes : t ≡ after s 2 0 (slice_set s.homes 0 (some (Home shelf))) id (with_given shelf.book view)
