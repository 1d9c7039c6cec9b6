-- Load of a lane word. A seat that finds its own lane at 0 knows that it is empty. The holder of the turn has looked at the
-- lane in this turn, and the slot of a lane that it finds filled is out with it.
use Rattle.std.specs.Prelude.{◌≡◌, ◌≢◌, ◌⊎◌, ℕ, ◌+◌, ◌*◌, ◌<◌, ◌^◌, true, false, ◌||◌, ◌&&◌, ◌∷◌, eqb, slice_set}
use mathlib.Core.Option.{some, none}
use lib.ListN.{get_elem?}
use Rattle.atomic_table.specs.Table.{Step}
use Rattle.fd_kinds.specs.Parts.{PartMeaning, loose_part}
use Rattle.fd_kinds.specs.History.{IsSmall}
use Rattle.fd_kinds.specs.Stores.{Written}
use Rattle.fd_shelf.specs.Books.{all_parts}
use Rattle.fd_shelf.specs.Numbers.{IsIn}
use Rattle.fd_rule.specs.Tables.{TableState, Seated, Sits, after, word}
use Rattle.fd_rule.specs.View.{View, TurnView, bare, laden}
use Rattle.fd_rule.specs.declared.slot.SlotValue.{SlotValue}
use Rattle.fd_rule.specs.declared.slot.SlotValue.TheVariants.{Landed}

-- the lane is below the count of seats, and the holder of the turn has no part out of another
pub record MayLoad (seats lane : ℕ) (t : TurnView) : Type 0 where
  pub inside : lane < seats
  pub hand : t.holds ≡ true → t.hand ≡ bare

-- a seat without the turn loads n from lane k
abbrev pub with_lane : ℕ → ℕ → View → View
with_lane k n v = record v { draws = record v.draws { empty = v.draws.empty || (eqb k v.place.number && eqb n 0) } }

-- the holder of the turn finds lane k empty ..
abbrev pub with_none : ℕ → View → View
with_none k v = record v { turn = record v.turn { looked = k ∷ v.turn.looked }; draws = record v.draws { empty = v.draws.empty || eqb k v.place.number } }

-- .. or filled with a batch
abbrev pub with_some : ℕ → Written → View → View
with_some k b v = record v { turn = record v.turn { looked = k ∷ v.turn.looked; hand = laden k b } }

-- A batch that was found in a lane, against the book in hand, which does not have it: just what `Shelf::admit` asks.
pub record Found {P : Type 0} (means : P → PartMeaning) (n : ℕ) (b : Written) (p : P) (v : View) : Type 0 where
  pub number : b.number ≡ n
  pub part : means p ≡ loose_part n b.rows
  pub small : IsSmall b.rows
  pub above : v.turn.mark < n
  pub bounded : n < 2 ^ 63
  pub outside : IsIn n (all_parts v.turn.book) → ⊥

-- the seat after it has loaded n from lane k
pub record HasLoaded {P : Type 0} (means : P → PartMeaning) (k n : ℕ) (m m' : Seated P) : Type 0 where
  pub without : m.0.turn.holds ≡ false → m' ≡ (with_lane k n m.0, m.1)
  pub empty : m.0.turn.holds ≡ true → n ≡ 0 → m' ≡ (with_none k m.0, m.1)
  pub filled : m.0.turn.holds ≡ true → n ≢ 0 → (p : P) × (b : Written) × Found means n b p m.0 × (m' ≡ (with_some k b m.0, (1 + k, Landed p) ∷ m.1))

abbrev pub told : {P : Type 0} → (P → PartMeaning) → Step (SlotValue P) → Seated P → ℕ → Seated P → Type 0
told means st m r m' = (m'.0.place ≡ m.0.place) × (m'.0.pinning ≡ m.0.pinning) × ((k : ℕ) → st.word ≡ 2 * k + 5 → HasLoaded means k r m m')

-- the step on the table, by a seat without the turn ..
pub record HappensFree {P : Type 0} (seats k id : ℕ) (s t : TableState P) : Type 0 where
  pub view : View
  pub sits : Sits s id view
  pub may : MayLoad seats k view.turn
  pub holds : view.turn.holds ≡ false
  pub becomes : t ≡ after s (2 * k + 5) (word s (2 * k + 5)) s.homes id (with_lane k (word s (2 * k + 5)) view)

-- .. by its holder, where the lane is empty ..
pub record HappensNone {P : Type 0} (seats k id : ℕ) (s t : TableState P) : Type 0 where
  pub view : View
  pub sits : Sits s id view
  pub may : MayLoad seats k view.turn
  pub holds : view.turn.holds ≡ true
  pub vacant : word s (2 * k + 5) ≡ 0
  pub becomes : t ≡ after s (2 * k + 5) (word s (2 * k + 5)) s.homes id (with_none k view)

-- .. and where it is filled
pub record HappensSome {P : Type 0} (means : P → PartMeaning) (seats k id : ℕ) (s t : TableState P) : Type 0 where
  pub view : View
  pub sits : Sits s id view
  pub may : MayLoad seats k view.turn
  pub holds : view.turn.holds ≡ true
  pub filled : word s (2 * k + 5) ≢ 0
  pub part : P
  pub home : get_elem? s.homes (1 + k) ≡ some (some (Landed part))
  pub batch : Written
  pub number : batch.number ≡ word s (2 * k + 5)
  pub means_it : means part ≡ loose_part batch.number batch.rows
  pub becomes : t ≡ after s (2 * k + 5) (word s (2 * k + 5)) (slice_set s.homes (1 + k) none) id (with_some k batch view)

abbrev pub Happens : {P : Type 0} → (P → PartMeaning) → ℕ → ℕ → ℕ → TableState P → TableState P → Type 0
Happens means seats k id s t = HappensFree seats k id s t ⊎ (HappensNone seats k id s t ⊎ HappensSome means seats k id s t)
