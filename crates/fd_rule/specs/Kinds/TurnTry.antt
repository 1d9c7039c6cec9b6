-- Take turn: where the turn word is 0, it becomes one more than the seat's number, and the shelf's slot is out with the seat.
-- Otherwise the seat knows who holds the turn.
use Rattle.std.specs.Prelude.{◌≡◌, ◌≢◌, ◌⊎◌, ℕ, ◌+◌, ◌<◌, ◌≤◌, ◌^◌, true, [], ◌∷◌, ◌++◌, length, slice_set}
use mathlib.Core.Option.{some, none}
use lib.ListN.{get_elem?}
use Rattle.atomic_table.specs.Table.{Step}
use Rattle.fd_kinds.specs.Stores.{Grows}
use Rattle.fd_shelf.specs.Books.{Shelved, all_parts}
use Rattle.fd_shelf.specs.Books.{Each as AllOf}
use Rattle.fd_shelf.specs.Histories.{hist}
use Rattle.fd_shelf.specs.Numbers.{IsIn, IsInSealed, Keeps}
use Rattle.fd_rule.specs.Lists.{AllUpto, AllAsDrawn, In}
use Rattle.fd_rule.specs.Tables.{TableState, Seated, Sits, after, word}
use Rattle.fd_rule.specs.View.{View, PinState, idle, arriving, settled, bare}
use Rattle.fd_rule.specs.declared.slot.SlotValue.{SlotValue}
use Rattle.fd_rule.specs.declared.slot.SlotValue.TheVariants.{Empty, Home}
use Rattle.fd_rule.specs.declared.turn.Turn.{Turn}
use Rattle.fd_rule.specs.declared.turn.Turn.TheVariants.{Taken, Held}

-- The shelf is in hand, and its history seen.
abbrev pub with_book : Shelved → View → View
with_book b v = record v { turn = record { holds = true; book = b.book; mark = b.mark; hand = bare; looked = [] }; seen = record v.seen { history = hist b.book b.mark }; books = b.book ∷ v.books }

abbrev pub with_refusal : ℕ → View → View
with_refusal holder v = record v { tries = record v.tries { refused = v.tries.refused ++ holder ∷ [] } }

-- r is at most each watermark that the seat may rest on
abbrev pub Below : ℕ → PinState → Type 0
Below r idle = Unit {0}
Below r (arriving ws) = (w : ℕ) → In w ws → r ≤ w
Below r (settled w) = r ≤ w

-- The shelf of a new turn against what the seat knew: its history begins with the one that the seat has seen, and reaches
-- each mark that it has loaded; its book has each number up to its mark, and of those that the seat drew the rows that they
-- were drawn for; it keeps what it should of those that the seat knows; and no number is sealed above a watermark that the
-- seat may rest on.
pub record Later (b : Shelved) (v : View) : Type 0 where
  pub grows : Grows v.seen.history (hist b.book b.mark)
  pub count : length (hist b.book b.mark) ≡ b.mark
  pub bounded : b.mark < 2 ^ 63
  pub marks : AllUpto b.mark v.seen.marks
  pub held : (n : ℕ) → 0 < n → n ≤ b.mark → IsIn n (all_parts b.book)
  pub drawn : AllAsDrawn b.book v.draws.own
  pub kept : AllOf (λ book. Keeps book b.book) v.books
  pub sealed : (n : ℕ) → IsInSealed n (all_parts b.book) → Below n v.pinning.state

abbrev pub told : {P : Type 0} → Step (SlotValue P) → Seated P → ℕ → Seated P → Type 0
told st m r m' = (r ≡ 0 → (b : Shelved) × (m' ≡ (with_book b m.0, (0, Home b) ∷ m.1)) × Later b m.0) × (r ≢ 0 → m' ≡ (with_refusal r m.0, m.1))

-- what the call answers
abbrev pub HasTried : {P : Type 0} → Seated P → Seated P → Turn P → Type 0
HasTried m m' (Taken shelf) = (m' ≡ (with_book shelf m.0, (0, Empty) ∷ m.1)) × Later shelf m.0
HasTried m m' (Held holder) = m' ≡ (with_refusal (holder + 1) m.0, m.1)

-- the step on the table, where nobody holds the turn ..
pub record HappensFree {P : Type 0} (id : ℕ) (s t : TableState P) : Type 0 where
  pub view : View
  pub sits : Sits s id view
  pub free : word s 2 ≡ 0
  pub shelf : Shelved
  pub home : get_elem? s.homes 0 ≡ some (some (Home shelf))
  pub becomes : t ≡ after s 2 (id + 1) (slice_set s.homes 0 none) id (with_book shelf view)

-- .. and where somebody does
pub record HappensHeld {P : Type 0} (id : ℕ) (s t : TableState P) : Type 0 where
  pub view : View
  pub sits : Sits s id view
  pub held : word s 2 ≢ 0
  pub becomes : t ≡ after s 2 (word s 2) s.homes id (with_refusal (word s 2) view)

abbrev pub Happens : {P : Type 0} → ℕ → TableState P → TableState P → Type 0
Happens id s t = HappensFree id s t ⊎ HappensHeld id s t
