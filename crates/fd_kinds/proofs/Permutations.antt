-- Lists with the same items in another order, by exchanges of neighbours.
use Rattle.std.proofs.Common.{◌≡◌, ℕ, zero, suc, ◌<◌, ◌+ℤ◌, Bool, true, false, ◌||◌, cond, List, [], ◌∷◌, length, get_or, set, swap, filter, refl, sym, ◌∙◌, ap, arith, IsPermutation}
use Rattle.std.specs.List.{list_any}
use Rattle.std.proofs.lemmas.List.Sorted.{IsPermutation-keeps}
use Rattle.std.proofs.Math.IntN.{+ℤ_assoc, +ℤ_comm}
use Rattle.fd_kinds.specs.declared.row.Row.{Row}
use Rattle.fd_kinds.specs.Meaning.{value_sum}

pub data Shuffled {X : Type 0} : List X → List X → Type 0 where
  same : (xs : List X) → Shuffled xs xs
  behind : (x : X) (xs ys : List X) → Shuffled xs ys → Shuffled (x ∷ xs) (x ∷ ys)
  exchange : (x y : X) (xs : List X) → Shuffled (x ∷ y ∷ xs) (y ∷ x ∷ xs)
  chain : (xs ys zs : List X) → Shuffled xs ys → Shuffled ys zs → Shuffled xs zs

-- ---- permutations

module _ {X : Type 0} where
  -- the first item and the one at j among the others
  first_swapped : (x : X) (xs : List X) (j : ℕ) (d : X) → j < length xs → Shuffled (x ∷ xs) (get_or xs j d ∷ set xs j x)
  first_swapped x [] j d p = absurd (omega arith)
  first_swapped x (y ∷ ys) zero d p = exchange x y ys
  first_swapped x (y ∷ ys) (suc j) d p =
      chain _ _ _ (exchange x y ys) (chain _ _ _ (behind y _ _ (first_swapped x ys j d (omega arith))) (exchange y (get_or ys j d) (set ys j x)))

  two_swapped : (xs : List X) (i j : ℕ) (d : X) → i < length xs → j < length xs → Shuffled xs (set (set xs i (get_or xs j d)) j (get_or xs i d))
  two_swapped [] i j d p q = absurd (omega arith)
  two_swapped (x ∷ xs) zero zero d p q = same (x ∷ xs)
  two_swapped (x ∷ xs) zero (suc j) d p q = first_swapped x xs j d (omega arith)
  two_swapped (x ∷ xs) (suc i) zero d p q = first_swapped x xs i d (omega arith)
  two_swapped (x ∷ xs) (suc i) (suc j) d p q = behind x _ _ (two_swapped xs i j d (omega arith) (omega arith))

  swapped : (xs : List X) (i j : ℕ) → i < length xs → j < length xs → Shuffled xs (swap xs i j)
  swapped [] i j p q = same []
  swapped (x ∷ xs) i j p q = two_swapped (x ∷ xs) i j x p q

  pub shuffled_from_permutation : (xs ys : List X) → IsPermutation xs ys → Shuffled xs ys
  shuffled_from_permutation xs ys h =
      IsPermutation-keeps xs (Shuffled xs) (same xs) (λ l i j p q before. chain xs l (swap l i j) before (swapped l i j p q)) ys h

-- ---- what stays

module _ {X : Type 0} (p : X → Bool) where
  kept_behind : (b : Bool) (x : X) (xs ys : List X) → Shuffled xs ys → Shuffled (cond b (x ∷ xs) xs) (cond b (x ∷ ys) ys)
  kept_behind true x xs ys h = behind x xs ys h
  kept_behind false x xs ys h = h

  kept_exchange : (b c : Bool) (x y : X) (xs : List X)
      → Shuffled (cond b (x ∷ cond c (y ∷ xs) xs) (cond c (y ∷ xs) xs)) (cond c (y ∷ cond b (x ∷ xs) xs) (cond b (x ∷ xs) xs))
  kept_exchange true true x y xs = exchange x y xs
  kept_exchange true false x y xs = same (x ∷ xs)
  kept_exchange false true x y xs = same (y ∷ xs)
  kept_exchange false false x y xs = same xs

  -- the items that pass a test are shuffled too
  pub filter_shuffled : {xs ys : List X} → Shuffled xs ys → Shuffled (filter p xs) (filter p ys)
  filter_shuffled (same xs) = same (filter p xs)
  filter_shuffled (behind x xs ys h) = kept_behind (p x) x (filter p xs) (filter p ys) (filter_shuffled h)
  filter_shuffled (exchange x y xs) = kept_exchange (p x) (p y) x y (filter p xs)
  filter_shuffled (chain xs ys zs h k) = chain (filter p xs) (filter p ys) (filter p zs) (filter_shuffled h) (filter_shuffled k)

  or_exchange : (a b c : Bool) → (a || (b || c)) ≡ (b || (a || c))
  or_exchange true true c = refl
  or_exchange true false c = refl
  or_exchange false b c = refl

  -- an item passes a test before where one does after
  pub any_shuffled : {xs ys : List X} → Shuffled xs ys → list_any p xs ≡ list_any p ys
  any_shuffled (same xs) = refl
  any_shuffled (behind x xs ys h) = ap (λ b. p x || b) (any_shuffled h)
  any_shuffled (exchange x y xs) = or_exchange (p x) (p y) (list_any p xs)
  any_shuffled (chain xs ys zs h k) = any_shuffled h ∙ any_shuffled k

-- the sum of the values is the same
pub value_sum_shuffled : {xs ys : List Row} → Shuffled xs ys → value_sum xs ≡ value_sum ys
value_sum_shuffled (same xs) = refl
value_sum_shuffled (behind x xs ys h) = ap (λ n. x.value +ℤ n) (value_sum_shuffled h)
value_sum_shuffled (exchange x y xs) =
    sym (+ℤ_assoc x.value y.value (value_sum xs))
    ∙ ap (λ n. n +ℤ value_sum xs) (+ℤ_comm x.value y.value)
    ∙ +ℤ_assoc y.value x.value (value_sum xs)
value_sum_shuffled (chain xs ys zs h k) = value_sum_shuffled h ∙ value_sum_shuffled k
