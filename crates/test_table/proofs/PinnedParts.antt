-- The parts up to a watermark that a seat has pinned.
use Rattle.std.proofs.Common.{◌≡◌, ℕ, ◌≤◌, Bool, true, false, List, [], ◌∷◌, ◌++◌, refl, subst, inl, inr, arith}
use Rattle.fd_kinds.specs.Parts.{PartMeaning, IsPart}
use Rattle.fd_shelf.specs.Books.{Shelved, Any, Each, all_parts, settled_parts}
use Rattle.fd_shelf.specs.Marks.{IsBook}
use Rattle.fd_shelf.specs.Numbers.{HoldsSealed, IsInSealed}
use Rattle.fd_shelf.specs.Steps.{IsWholeAt}
use Rattle.fd_rule.specs.Kinds.TurnTry.{Below, Later}
use Rattle.fd_rule.specs.Lists.{AllUpto, In}
use Rattle.fd_rule.specs.View.{View, settled}

upto_all : (m w : ℕ) (ws : List ℕ) → AllUpto m ws → In w ws → w ≤ m
upto_all m w [] all h = absurd h
upto_all m w (x ∷ xs) all (inl h) = let a = all.0 in omega arith
upto_all m w (x ∷ xs) all (inr h) = upto_all m w xs all.1 h

-- each loaded mark is at most the mark of the shelf
pub marked : (b : Shelved) (v : View) (w : ℕ) → Later b v → In w v.seen.marks → w ≤ b.mark
marked b v w later h = upto_all b.mark w v.seen.marks later.marks h

any_front : {A : Type 0} (Is : A → Type 0) (xs ys : List A) → Any Is xs → Any Is (xs ++ ys)
any_front Is [] ys h = absurd h
any_front Is (x ∷ xs) ys (inl h) = inl h
any_front Is (x ∷ xs) ys (inr h) = inr (any_front Is xs ys h)

each_front : {A : Type 0} (Is : A → Type 0) (xs ys : List A) → Each Is (xs ++ ys) → Each Is xs
each_front Is [] ys all = tt
each_front Is (x ∷ xs) ys all = (all.0, each_front Is xs ys all.1)

-- where no sealed part reaches past a number, no part holds it and a greater one
whole_parts : (w : ℕ) (ps : List PartMeaning) → Each IsPart ps → ((n : ℕ) → IsInSealed n ps → n ≤ w) → Each (IsWholeAt w) ps
whole_parts w [] are low = tt
whole_parts w (p ∷ ps) are low = (one p.sealed refl, whole_parts w ps are.1 (λ n h. low n (inr h)))
  where
    one : (b : Bool) → p.sealed ≡ b → IsWholeAt w p
    one true is begins = low p.hi (inl (is, (are.0.ordered, omega arith)))
    one false is begins = let single = are.0.one_number is in omega arith

pub whole : (b : Shelved) (v : View) (w : ℕ) → Later b v → v.pinning.state ≡ settled w → IsBook b.book b.mark → Each (IsWholeAt w) (settled_parts b.book)
whole b v w later pinned order = whole_parts w (settled_parts b.book) (each_front IsPart (settled_parts b.book) b.book.stragglers order.well_formed.parts)
    (λ n h. subst (Below n) pinned (later.sealed n (any_front (HoldsSealed n) (settled_parts b.book) b.book.stragglers h)))
