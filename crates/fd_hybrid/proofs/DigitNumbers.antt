-- Digits of numbers, and numbers of digits.
use Rattle.std.proofs.Common.{◌≡◌, ℕ, zero, suc, ◌+◌, ◌*◌, ◌/◌, ◌%◌, ◌^◌, ◌<◌, ◌≤◌, true, List, [], ◌∷◌, ◌++◌, length, get_or, take, drop, ◌==◌, refl, sym, ap, ◌∙◌, subst, arith}
use Rattle.std.specs.List.{list_all}
use Rattle.std.proofs.Math.Nat.{mod-eq_of_lt, add-mul-mod_self_left, add-mul-div_left, div-eq_of_lt, mod-lt, mul_assoc}
use Rattle.std.proofs.lemmas.Nat.{pow_pos, pow-add, div-add-mod', shr_below}
use Rattle.fd_hybrid.specs.Digits.{number, digits}
use Rattle.fd_hybrid.proofs.DigitLaws.{number-cons, number-nil, digits-zero, digits-suc}

-- each digit fits w bits
abbrev pub Digits : ℕ → List ℕ → Type 0
Digits w ds = (i : ℕ) → get_or ds i 0 < 2 ^ w

pub length-digits : (w k n : ℕ) → length (digits w k n) ≡ k
length-digits w zero n = rw (digits-zero w n) refl
length-digits w (suc k) n = rw (digits-suc w k n) (ap suc (length-digits w k (n / 2 ^ w)))

pub digits_fit : (w k n : ℕ) → Digits w (digits w k n)
digits_fit w zero n i = rw (digits-zero w n) (pow_pos w)
digits_fit w (suc k) n zero = rw (digits-suc w k n) (mod-lt n (pow_pos w))
digits_fit w (suc k) n (suc i) = rw (digits-suc w k n) (digits_fit w k (n / 2 ^ w) i)

head_of : (w d n : ℕ) → d < 2 ^ w → (d + 2 ^ w * n) % 2 ^ w ≡ d
head_of w d n lt = add-mul-mod_self_left d (2 ^ w) n ∙ mod-eq_of_lt lt

tail_of : (w d n : ℕ) → d < 2 ^ w → (d + 2 ^ w * n) / 2 ^ w ≡ n
tail_of w d n lt = let q : d / 2 ^ w ≡ 0 = div-eq_of_lt lt in omega (arith, add-mul-div_left d n (pow_pos w), q)

-- the digits of a number that is made of digits
pub digits-number : (w k : ℕ) (ds : List ℕ) → Digits w ds → length ds ≤ k → take (length ds) (digits w k (number w ds)) ≡ ds
digits-number w k [] fit le = refl
digits-number w zero (d ∷ ds) fit le = absurd (omega arith)
digits-number w (suc k) (d ∷ ds) fit le =
    let n : ℕ = number w ds in
    let short : length ds ≤ k = omega arith in
    let e : digits w (suc k) (number w (d ∷ ds)) ≡ d ∷ digits w k n =
    ap (digits w (suc k)) (number-cons w d ds) ∙ digits-suc w k (d + 2 ^ w * n) ∙ ap (λ x. x ∷ digits w k ((d + 2 ^ w * n) / 2 ^ w)) (head_of w d n (fit 0))
    ∙ ap (λ m. d ∷ digits w k m) (tail_of w d n (fit 0)) in
    ap (take (length (d ∷ ds))) e ∙ ap (λ xs. d ∷ xs) (digits-number w k ds (λ i. fit (suc i)) short)

pub digits-number_all : (w k : ℕ) (ds : List ℕ) → Digits w ds → length ds ≡ k → digits w k (number w ds) ≡ ds
digits-number_all w zero [] fit e = digits-zero w (number w [])
digits-number_all w (suc k) [] fit e = absurd (omega arith)
digits-number_all w zero (d ∷ ds) fit e = absurd (omega arith)
digits-number_all w (suc k) (d ∷ ds) fit e =
    let n : ℕ = number w ds in
    ap (digits w (suc k)) (number-cons w d ds) ∙ digits-suc w k (d + 2 ^ w * n) ∙ ap (λ x. x ∷ digits w k ((d + 2 ^ w * n) / 2 ^ w)) (head_of w d n (fit 0))
    ∙ ap (λ m. d ∷ digits w k m) (tail_of w d n (fit 0)) ∙ ap (λ xs. d ∷ xs) (digits-number_all w k ds (λ i. fit (suc i)) (omega arith))

below_tail : (w k n : ℕ) → n < 2 ^ (w * suc k) → n / 2 ^ w < 2 ^ (w * k)
below_tail w k n lt =
    let e : w * suc k ≡ w * k + w = omega arith in
    shr_below n (w * k) w (subst (λ (j : ℕ). n < 2 ^ j) e lt)

-- the number of the digits of a number
pub number-digits : (w k n : ℕ) → n < 2 ^ (w * k) → number w (digits w k n) ≡ n
number-digits w zero n lt = let e : w * 0 ≡ 0 = omega arith in let one : n < 2 ^ 0 = subst (λ (j : ℕ). n < 2 ^ j) e lt in ap (number w) (digits-zero w n) ∙ number-nil w ∙ omega arith
number-digits w (suc k) n lt =
    let q : ℕ = n / 2 ^ w in
    ap (number w) (digits-suc w k n) ∙ number-cons w (n % 2 ^ w) (digits w k q) ∙ ap (λ m. n % 2 ^ w + 2 ^ w * m) (number-digits w k q (below_tail w k n lt))
    ∙ omega (arith, div-add-mod' n (2 ^ w))

pub number-append : (w : ℕ) (xs ys : List ℕ) → number w (xs ++ ys) ≡ number w xs + 2 ^ (w * length xs) * number w ys
number-append w [] ys = let none : w * 0 ≡ 0 = omega arith in let e : 2 ^ (w * 0) ≡ 1 = ap (λ j. 2 ^ j) none in omega (arith, number-nil w, ap (λ k. k * number w ys) e)
number-append w (x ∷ xs) ys =
    let e : w * length (x ∷ xs) ≡ w + w * length xs = omega arith in
    let p : 2 ^ (w * length (x ∷ xs)) * number w ys ≡ 2 ^ w * (2 ^ (w * length xs) * number w ys) =
    ap (λ j. 2 ^ j * number w ys) e ∙ ap (λ k. k * number w ys) (pow-add 2 w (w * length xs)) ∙ mul_assoc (2 ^ w) (2 ^ (w * length xs)) (number w ys) in
    let q : 2 ^ w * number w (xs ++ ys) ≡ 2 ^ w * (number w xs + 2 ^ (w * length xs) * number w ys) = ap (λ k. 2 ^ w * k) (number-append w xs ys) in
    omega (arith, number-cons w x (xs ++ ys), number-cons w x xs, p, q)

all_zero : (w k : ℕ) → list_all (λ v. v == 0) (digits w k 0) ≡ true
all_zero w zero = rw (digits-zero w 0) refl
all_zero w (suc k) =
    let m : 0 % 2 ^ w ≡ 0 = mod-eq_of_lt (pow_pos w) in
    let d : 0 / 2 ^ w ≡ 0 = div-eq_of_lt (pow_pos w) in
    rw (digits-suc w k 0, m, d) (all_zero w k)

-- above a small number's digits there are zeros
pub zeros_above : (w r k n : ℕ) → n < 2 ^ (w * r) → list_all (λ v. v == 0) (drop r (digits w k n)) ≡ true
zeros_above w zero k n lt =
    let e : w * 0 ≡ 0 = omega arith in
    let one : n < 2 ^ 0 = subst (λ (j : ℕ). n < 2 ^ j) e lt in
    let none : n ≡ 0 = omega arith in
    ap (λ m. list_all (λ v. v == 0) (digits w k m)) none ∙ all_zero w k
zeros_above w (suc r) zero n lt = rw (digits-zero w n) refl
zeros_above w (suc r) (suc k) n lt = rw (digits-suc w k n) (zeros_above w r k (n / 2 ^ w) (below_tail w r n lt))

-- the first digits depend on what is below them alone
pub first_digits : (w j k n m : ℕ) → j ≤ k → take j (digits w k (n + 2 ^ (w * j) * m)) ≡ digits w j n
first_digits w zero k n m le = sym (digits-zero w n)
first_digits w (suc j) zero n m le = absurd (omega arith)
first_digits w (suc j) (suc k) n m le =
    let short : j ≤ k = omega arith in
    let e : w * suc j ≡ w + w * j = omega arith in
    let p : 2 ^ (w * suc j) * m ≡ 2 ^ w * (2 ^ (w * j) * m) = ap (λ i. 2 ^ i * m) e ∙ ap (λ i. i * m) (pow-add 2 w (w * j)) ∙ mul_assoc (2 ^ w) (2 ^ (w * j)) m in
    let low : (n + 2 ^ w * (2 ^ (w * j) * m)) % 2 ^ w ≡ n % 2 ^ w = add-mul-mod_self_left n (2 ^ w) (2 ^ (w * j) * m) in
    let high : (n + 2 ^ w * (2 ^ (w * j) * m)) / 2 ^ w ≡ n / 2 ^ w + 2 ^ (w * j) * m = add-mul-div_left n (2 ^ (w * j) * m) (pow_pos w) in
    ap (λ i. take (suc j) (digits w (suc k) (n + i))) p ∙ ap (take (suc j)) (digits-suc w k (n + 2 ^ w * (2 ^ (w * j) * m)))
    ∙ ap (λ d. d ∷ take j (digits w k ((n + 2 ^ w * (2 ^ (w * j) * m)) / 2 ^ w))) low ∙ ap (λ i. n % 2 ^ w ∷ take j (digits w k i)) high
    ∙ ap (λ xs. n % 2 ^ w ∷ xs) (first_digits w j k (n / 2 ^ w) m short) ∙ sym (digits-suc w j n)
