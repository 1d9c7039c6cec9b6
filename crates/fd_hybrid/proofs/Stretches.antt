-- How many equal values stand next.
use Rattle.std.proofs.Common.{◌≡◌, ◌≢◌, ℕ, suc, ◌+◌, ◌<◌, ◌≤◌, Bool, true, false, cond, zero, List, [], ◌∷◌, ◌++◌, length, get_or, drop, replicate, ◌==◌, refl, sym, ap, ◌∙◌, arith, add-one}
use Rattle.std.proofs.Math.Seq.{drop-cons}
use Rattle.std.proofs.lemmas.Bool.Decides.{nat_tests}
use Rattle.fd_hybrid.specs.Runs.{as_many, equal_next}

same : (v : ℕ) → (v == v) ≡ true
same v = grind (arith, nat_tests)

other : (v x : ℕ) → x ≢ v → (x == v) ≡ false
other v x h = grind (arith, nat_tests)

pub as_many-same : (v : ℕ) (xs : List ℕ) → as_many v (v ∷ xs) ≡ suc (as_many v xs)
as_many-same v xs = ap (λ b. cond b (suc (as_many v xs)) 0) (same v)

pub as_many-other : (v x : ℕ) (xs : List ℕ) → x ≢ v → as_many v (x ∷ xs) ≡ 0
as_many-other v x xs h = ap (λ b. cond b (suc (as_many v xs)) 0) (other v x h)

pub equal_next-as_many : (xs : List ℕ) → as_many (get_or xs 0 0) xs ≡ equal_next xs
equal_next-as_many [] = refl
equal_next-as_many (x ∷ xs) = as_many-same x xs

pub one_more : (v k x : ℕ) (xs : List ℕ) (total : ℕ) → k < length xs → x ≡ get_or xs k 0 → x ≡ v → k + as_many v (drop k xs) ≡ total → k + 1 + as_many v (drop (k + 1) xs) ≡ total
one_more v k x xs total lt is equal before =
    let front : drop k xs ≡ x ∷ drop (k + 1) xs = drop-cons xs k 0 lt ∙ ap (λ j. get_or xs k 0 ∷ drop j xs) (sym (add-one k)) ∙ ap (λ y. y ∷ drop (k + 1) xs) (sym is) in
    let n : as_many v (drop k xs) ≡ suc (as_many v (drop (k + 1) xs)) = ap (as_many v) front ∙ ap (λ y. as_many v (y ∷ drop (k + 1) xs)) equal ∙ as_many-same v (drop (k + 1) xs) in
    omega (arith, n, before)

pub no_more : (v k x : ℕ) (xs : List ℕ) (total : ℕ) → k < length xs → x ≡ get_or xs k 0 → x ≢ v → k + as_many v (drop k xs) ≡ total → k ≡ total
no_more v k x xs total lt is differs before =
    let front : drop k xs ≡ x ∷ drop (k + 1) xs = drop-cons xs k 0 lt ∙ ap (λ j. get_or xs k 0 ∷ drop j xs) (sym (add-one k)) ∙ ap (λ y. y ∷ drop (k + 1) xs) (sym is) in
    let n : as_many v (drop k xs) ≡ 0 = ap (as_many v) front ∙ as_many-other v x (drop (k + 1) xs) differs in
    omega (arith, n, before)

pub as_many-le : (v : ℕ) (xs : List ℕ) → as_many v xs ≤ length xs
as_many-le v [] = omega arith
as_many-le v (x ∷ xs) = capped (x == v) (as_many-le v xs)
  where
    capped : (b : Bool) → as_many v xs ≤ length xs → cond b (suc (as_many v xs)) 0 ≤ length (x ∷ xs)
    capped true le = omega arith
    capped false le = omega arith

pub equal_next-le : (xs : List ℕ) → equal_next xs ≤ length xs
equal_next-le [] = omega arith
equal_next-le (x ∷ xs) = omega (arith, as_many-le x xs)

pub as_many-replicate : (v n : ℕ) (xs : List ℕ) → as_many v (replicate n v ++ xs) ≡ n + as_many v xs
as_many-replicate v zero xs = omega arith
as_many-replicate v (suc n) xs = let e = as_many-replicate v n xs in as_many-same v (replicate n v ++ xs) ∙ omega arith

pub equal_next-replicate : (v n : ℕ) (xs : List ℕ) → 0 < n → equal_next (replicate n v ++ xs) ≡ n + as_many v xs
equal_next-replicate v zero xs lt = absurd (omega arith)
equal_next-replicate v (suc n) xs lt = let e = as_many-replicate v n xs in omega arith

-- a stretch that ends inside of a list ends there, whatever follows
pub as_many-append : (v : ℕ) (xs ys : List ℕ) → as_many v xs < length xs → as_many v (xs ++ ys) ≡ as_many v xs
as_many-append v [] ys lt = absurd (omega arith)
as_many-append v (x ∷ xs) ys lt = split (x == v) lt (as_many-append v xs ys)
  where
    split : (b : Bool) → cond b (suc (as_many v xs)) 0 < length (x ∷ xs) → (as_many v xs < length xs → as_many v (xs ++ ys) ≡ as_many v xs)
        → cond b (suc (as_many v (xs ++ ys))) 0 ≡ cond b (suc (as_many v xs)) 0
    split true lt more = ap suc (more (omega arith))
    split false lt more = refl

pub equal_next-append : (xs ys : List ℕ) → equal_next xs < length xs → equal_next (xs ++ ys) ≡ equal_next xs
equal_next-append [] ys lt = absurd (omega arith)
equal_next-append (x ∷ xs) ys lt = ap suc (as_many-append x xs ys (omega arith))

-- what follows makes a stretch no shorter
pub as_many-longer : (v : ℕ) (xs ys : List ℕ) → as_many v xs ≤ as_many v (xs ++ ys)
as_many-longer v [] ys = omega arith
as_many-longer v (x ∷ xs) ys = split (x == v) (as_many-longer v xs ys)
  where
    split : (b : Bool) → as_many v xs ≤ as_many v (xs ++ ys) → cond b (suc (as_many v xs)) 0 ≤ cond b (suc (as_many v (xs ++ ys))) 0
    split true le = omega arith
    split false le = omega arith

pub equal_next-longer : (xs ys : List ℕ) → equal_next xs ≤ equal_next (xs ++ ys)
equal_next-longer [] ys = omega arith
equal_next-longer (x ∷ xs) ys = omega (arith, as_many-longer x xs ys)

pub none_at_head : (u : ℕ) (xs ys : List ℕ) → 0 < length xs → get_or xs 0 0 ≢ u → as_many u (xs ++ ys) ≡ 0
none_at_head u [] ys some h = absurd (omega arith)
none_at_head u (x ∷ xs) ys some h = as_many-other u x (xs ++ ys) h

pub head_differs : (u x : ℕ) (xs : List ℕ) → as_many u (x ∷ xs) ≡ 0 → x ≢ u
head_differs u x xs none e = let s : as_many u (x ∷ xs) ≡ suc (as_many u xs) = ap (λ y. as_many u (y ∷ xs)) e ∙ as_many-same u xs in absurd (omega arith)
