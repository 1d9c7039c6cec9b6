-- One sealed part in place of others, against what a turn is given back with.
use Rattle.std.proofs.Common.{◌≡◌, ◌⊎◌, ℕ, ◌+◌, ◌<◌, ◌≤◌, Bool, true, false, if◌then◌else◌, List, [], ◌∷◌, ◌++◌, filter, flat_map, get_or, length, map, sym, refl, ap, ◌∙◌, subst, ⊎_elim, inl, inr, arith}
use Rattle.std.specs.Prelude.{IsPermutation}
use Rattle.std.proofs.lemmas.List.Sorted.{IsPermutation-refl}
use Rattle.fd_kinds.specs.Parts.{PartMeaning}
use Rattle.fd_shelf.specs.Books.{Book, Shelved, Any, Follows, all_parts, settled_parts, rows_in}
use Rattle.fd_shelf.specs.Histories.{hist}
use Rattle.fd_shelf.specs.Marks.{IsBook}
use Rattle.fd_shelf.specs.Numbers.{HoldsSealed, IsIn, IsInSealed, Keeps}
use Rattle.fd_shelf.specs.Replacement.{begins_above, ends_below, put_over, replaced}
use Rattle.fd_shelf.specs.Steps.{lowest}
use Rattle.fd_shelf.specs.declared.picks.InBlock.{InBlock}
use Rattle.fd_rule.specs.Kinds.TurnReturn.{MayReturn, SameRows, SealsUpto}
use Rattle.fd_rule.specs.Kinds.TurnTry.{with_book}
use Rattle.fd_rule.specs.View.{View}
use Rattle.stubs.specs.declared.stub.Stub.{Stub}
use Rattle.stubs.specs.Stubs.{stub_meaning}

module _ {A : Type 0} (Is : A → Type 0) where
  any_left : (xs ys : List A) → Any Is xs → Any Is (xs ++ ys)
  any_left [] ys h = absurd h
  any_left (x ∷ xs) ys (inl h) = inl h
  any_left (x ∷ xs) ys (inr h) = inr (any_left xs ys h)

  any_right : (xs ys : List A) → Any Is ys → Any Is (xs ++ ys)
  any_right [] ys h = h
  any_right (x ∷ xs) ys h = inr (any_right xs ys h)

  any_split : (xs ys : List A) → Any Is (xs ++ ys) → Any Is xs ⊎ Any Is ys
  any_split [] ys h = inr h
  any_split (x ∷ xs) ys (inl h) = inl (inl h)
  any_split (x ∷ xs) ys (inr h) = ⊎_elim (λ a. inl (inr a)) (λ b. inr b) (any_split xs ys h)

  any_if : (x : A) (rest xs : List A) (b : Bool) → (Any Is rest → Any Is xs) → Any Is (if b then x ∷ rest else rest) → Any Is (x ∷ xs)
  any_if x rest xs true f (inl h) = inl h
  any_if x rest xs true f (inr h) = inr (f h)
  any_if x rest xs false f h = inr (f h)

  any_filter : (f : A → Bool) (xs : List A) → Any Is (filter f xs) → Any Is xs
  any_filter f [] h = absurd h
  any_filter f (x ∷ xs) h = any_if x (filter f xs) xs (f x) (any_filter f xs) h

from_first : (n first mark : ℕ) (ps : List PartMeaning) → Follows first ps mark → IsIn n ps → first ≤ n
from_first n first mark [] f h = absurd h
from_first n first mark (p ∷ ps) f (inl h) = let a = f.0 in let b = h.0 in omega arith
from_first n first mark (p ∷ ps) f (inr h) = let a = f.0 in let b = f.1 in let c = from_first n (p.hi + 1) mark ps f.2 h in omega arith

module _ (old : Shelved) (part : PartMeaning) where
  abbrev new : Shelved
  new = replaced part old

  abbrev flat : List PartMeaning
  flat = flat_map (λ (block : List PartMeaning). block) old.book.closed

  over : (n : ℕ) → IsInSealed n (put_over part old.book.active) → IsInSealed n old.book.active ⊎ (n ≤ part.hi)
  over n h = ⊎_elim
      (λ below. inl (any_filter (HoldsSealed n) (ends_below part.lo) old.book.active below))
      (λ more. here more)
      (any_split (HoldsSealed n) (filter (ends_below part.lo) old.book.active) (part ∷ filter (begins_above part.hi) old.book.active) h)
    where
      here : IsInSealed n (part ∷ filter (begins_above part.hi) old.book.active) → IsInSealed n old.book.active ⊎ (n ≤ part.hi)
      here (inl x) = inr x.1.1
      here (inr x) = inl (any_filter (HoldsSealed n) (begins_above part.hi) old.book.active x)

  seals : SealsUpto part.hi old.book new.book
  seals n h = ⊎_elim
      (λ settled. ⊎_elim
      (λ closed. inl (any_left (HoldsSealed n) (settled_parts old.book) old.book.stragglers (any_left (HoldsSealed n) flat old.book.active closed)))
      (λ active. ⊎_elim (λ x. inl (any_left (HoldsSealed n) (settled_parts old.book) old.book.stragglers (any_right (HoldsSealed n) flat old.book.active x))) (λ low. inr low) (over n active))
      (any_split (HoldsSealed n) flat new.book.active settled))
      (λ waiting. inl (any_right (HoldsSealed n) (settled_parts old.book) old.book.stragglers waiting))
      (any_split (HoldsSealed n) (settled_parts new.book) old.book.stragglers h)

-- a part that stands in place of others up to its last number seals no number above it
pub sealed_over : (old later : Shelved) (part : PartMeaning) → later ≡ replaced part old → SealsUpto part.hi old.book later.book
sealed_over old later part is = subst (λ (s : Shelved). SealsUpto part.hi old.book s.book) (sym is) (seals old part)

-- a book with the same numbers up to one mark, and the same stragglers, has the same rows
pub same_rows : (old new : Shelved) → IsBook old.book old.mark → IsBook new.book new.mark → new.mark ≡ old.mark → new.book.stragglers ≡ old.book.stragglers
    → ((book : Book) (mark n : ℕ) → IsBook book mark → 0 < n → n ≤ mark → IsIn n (all_parts book))
    → ((book : Book) (mark n : ℕ) → IsBook book mark → IsIn n (settled_parts book) → n ≤ mark)
    → ((m : ℕ) → hist new.book m ≡ hist old.book m) → Keeps old.book new.book → SameRows old.book new.book
same_rows old new was well mark waiting held only history keeps = record {
  history = history;
  forth = keeps.numbers;
  back = λ n h. ⊎_elim
      (λ settled. let first = from_first n 1 new.mark (settled_parts new.book) (subst (Follows 1 (settled_parts new.book)) (sym well.ends) well.well_formed.settled) settled in let low = only new.book new.mark n well settled in held old.book old.mark n was (omega arith) (omega arith))
      (λ straggler. any_right (λ p. (p.lo ≤ n) × (n ≤ p.hi)) (settled_parts old.book) old.book.stragglers (subst (λ ps. IsIn n ps) waiting straggler))
      (any_split (λ p. (p.lo ≤ n) × (n ≤ p.hi)) (settled_parts new.book) new.book.stragglers h);
}

pub sealed_more : (old later : Book) (hi limit : ℕ) → hi ≤ limit → SealsUpto hi old later → SealsUpto limit old later
sealed_more old later hi limit low sealed n h = ⊎_elim (λ x. inl x) (λ upto. inr (omega (arith, low, upto))) (sealed n h)

-- the turn may be given back with what was made of the shelf, where the floor was raised to what is sealed
pub may_give : (shelf later : Shelved) (before v : View) (limit : ℕ) → v ≡ with_book shelf before → later.mark ≡ shelf.mark → SameRows shelf.book later.book → Keeps shelf.book later.book → SealsUpto limit shelf.book later.book → limit ≤ before.pinning.raised → MayReturn later v
may_give shelf later before v limit is mark rows keeps sealed low = subst (λ (w : View). MayReturn later w) (sym is) record {
  holds = refl;
  hand = refl;
  mark = mark;
  rows = rows;
  keeps = keeps;
  sealed = sealed_more shelf.book later.book limit before.pinning.raised low sealed;
}

-- the first number is that of the first part
pub first_is : {I : Type 0} (f : I → PartMeaning) (parts : List I) (i : I) → 0 < length parts → i ≡ get_or parts 0 i → (f i).lo ≡ lowest (map f parts)
first_is f [] i some there = absurd (omega (arith, some))
first_is f (x ∷ xs) i some there = ap (λ y. (f y).lo) there

-- parts without rows have none
no_rows : (parts : List (InBlock Stub)) → rows_in (map (λ i. stub_meaning i.part) parts) ≡ []
no_rows [] = refl
no_rows (x ∷ xs) = no_rows xs

pub none_to_sort : (parts : List (InBlock Stub)) → IsPermutation (rows_in (map (λ i. stub_meaning i.part) parts)) []
none_to_sort parts = subst (λ rows. IsPermutation rows []) (sym (no_rows parts)) (IsPermutation-refl [])
