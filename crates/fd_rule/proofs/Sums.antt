-- Sums over views.
use Rattle.std.proofs.Common.{◌≡◌, ◌≢◌, ℕ, zero, suc, ◌+◌, ◌≤◌, Bool, true, false, ◌||◌, List, [], ◌∷◌, ◌++◌, length, set, sym, refl, ap, arith}
use mathlib.Core.Option.{some, some-injective, some-ne-none}
use lib.ListN.{get_elem?}
use Rattle.fd_rule.specs.View.{View}
use Rattle.fd_rule.specs.Rule.{sum, one_if}

pub sum_set : (f : View → ℕ) (vs : List View) (id : ℕ) (v w : View) → get_elem? vs id ≡ some v → sum f (set vs id w) + f v ≡ sum f vs + f w
sum_set f [] id v w at = absurd (some-ne-none v (sym at))
sum_set f (x ∷ xs) zero v w at = let e : f x ≡ f v = ap f (some-injective x v at) in omega arith
sum_set f (x ∷ xs) (suc id) v w at = let h = sum_set f xs id v w at in omega arith

pub sum_same : (f : View → ℕ) (vs : List View) (id : ℕ) (v w : View) → get_elem? vs id ≡ some v → f w ≡ f v → sum f (set vs id w) ≡ sum f vs
sum_same f vs id v w at e = let h = sum_set f vs id v w at in omega arith

pub sum_one : (f : View → ℕ) (vs : List View) (id : ℕ) (v : View) → get_elem? vs id ≡ some v → f v ≤ sum f vs
sum_one f [] id v at = absurd (some-ne-none v (sym at))
sum_one f (x ∷ xs) zero v at = let e : f x ≡ f v = ap f (some-injective x v at) in omega arith
sum_one f (x ∷ xs) (suc id) v at = let h = sum_one f xs id v at in omega arith

pub sum_two : (f : View → ℕ) (vs : List View) (j k : ℕ) (v w : View) → j ≢ k → get_elem? vs j ≡ some v → get_elem? vs k ≡ some w → f v + f w ≤ sum f vs
sum_two f [] j k v w apart a b = absurd (some-ne-none v (sym a))
sum_two f (x ∷ xs) zero zero v w apart a b = absurd (apart refl)
sum_two f (x ∷ xs) zero (suc k) v w apart a b = let e : f x ≡ f v = ap f (some-injective x v a) in let h = sum_one f xs k w b in omega arith
sum_two f (x ∷ xs) (suc j) zero v w apart a b = let e : f x ≡ f w = ap f (some-injective x w b) in let h = sum_one f xs j v a in omega arith
sum_two f (x ∷ xs) (suc j) (suc k) v w apart a b = let h = sum_two f xs j k v w (λ e. apart (ap suc e)) a b in omega arith

pub sum_push : (f : View → ℕ) (vs : List View) (w : View) → sum f (vs ++ w ∷ []) ≡ sum f vs + f w
sum_push f [] w = omega arith
sum_push f (x ∷ xs) w = let h = sum_push f xs w in omega arith

pub sum_most : (f : View → ℕ) (vs : List View) → ((v : View) → f v ≤ 1) → sum f vs ≤ length vs
sum_most f [] le = omega arith
sum_most f (x ∷ xs) le = let h = sum_most f xs le in let a = le x in omega arith

-- all but one are nothing
pub sum_alone : (f : View → ℕ) (vs : List View) (id : ℕ) (v : View) → get_elem? vs id ≡ some v → ((j : ℕ) (w : View) → j ≢ id → get_elem? vs j ≡ some w → f w ≡ 0) → sum f vs ≡ f v
sum_alone f [] id v at none = absurd (some-ne-none v (sym at))
sum_alone f (x ∷ xs) zero v at none = let e : f x ≡ f v = ap f (some-injective x v at) in let h = sum_none f xs (λ j w a. none (suc j) w (λ e. omega arith) a) in omega arith
  where
    sum_none : (f : View → ℕ) (xs : List View) → ((j : ℕ) (w : View) → get_elem? xs j ≡ some w → f w ≡ 0) → sum f xs ≡ 0
    sum_none f [] none = refl
    sum_none f (x ∷ xs) none = let a = none 0 x refl in let h = sum_none f xs (λ j w a. none (suc j) w a) in omega arith
sum_alone f (x ∷ xs) (suc id) v at none = let a = none 0 x (λ e. omega arith) refl in let h = sum_alone f xs id v at (λ j w other b. none (suc j) w (λ e. other (omega arith)) b) in omega arith

pub one_most : (b : Bool) → one_if b ≤ 1
one_most true = omega arith
one_most false = omega arith

pub one_or : (a b : Bool) → one_if a + one_if b ≤ 1 → one_if (a || b) ≡ one_if a + one_if b
one_or true true le = absurd (omega (arith, le))
one_or true false le = refl
one_or false b le = omega arith
