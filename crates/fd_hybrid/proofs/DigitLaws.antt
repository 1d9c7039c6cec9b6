-- Digits and the numbers that they make.
use Rattle.std.proofs.Common.{◌≡◌, ℕ, zero, suc, ◌+◌, ◌-◌, ◌*◌, ◌/◌, ◌%◌, ◌^◌, ◌<◌, ◌≤◌, List, [], ◌∷◌, ◌++◌, length, get_or, take, refl, sym, ap, ◌∙◌, subst, append_assoc, arith}
use Rattle.std.proofs.lemmas.List.{append-nil}
use Rattle.std.proofs.lemmas.Grind.{common_steps}
use Rattle.std.proofs.lemmas.Nat.{pow_pos}
use Rattle.std.proofs.Math.Nat.{pow-le-pow_right, mod-eq_of_lt}
use Rattle.fd_hybrid.proofs.Shifts.{joined}
use Rattle.fd_hybrid.specs.Digits.{number, digits}

pub digits-zero : (w n : ℕ) → digits w 0 n ≡ []
unfolding digits
digits-zero w n = refl

pub digits-suc : (w k n : ℕ) → digits w (suc k) n ≡ n % 2 ^ w ∷ digits w k (n / 2 ^ w)
unfolding digits
digits-suc w k n = refl

-- one more digit is written
pub wrote_digit : (w size k d : ℕ) (out out' : List ℕ) (n n' : ℕ) (total : List ℕ) → k < size
    → d ≡ n % 2 ^ w → n' ≡ n / 2 ^ w → out' ≡ out ++ d ∷ []
    → out ++ digits w (size - k) n ≡ total → out' ++ digits w (size - (k + 1)) n' ≡ total
wrote_digit w size k d out out' n n' total lt digit rest is before =
    let e : size - k ≡ suc (size - (k + 1)) = omega arith in
    ap (λ xs. xs ++ digits w (size - (k + 1)) n') is ∙ append_assoc out (d ∷ []) (digits w (size - (k + 1)) n')
    ∙ ap (λ x. out ++ x ∷ digits w (size - (k + 1)) n') digit ∙ ap (λ m. out ++ n % 2 ^ w ∷ digits w (size - (k + 1)) m) rest
    ∙ ap (λ xs. out ++ xs) (sym (digits-suc w (size - (k + 1)) n)) ∙ ap (λ j. out ++ digits w j n) (sym e) ∙ before

pub all_written : (w size k : ℕ) (out : List ℕ) (n : ℕ) (total : List ℕ) → size ≤ k → out ++ digits w (size - k) n ≡ total → out ≡ total
all_written w size k out n total le before =
    let e : size - k ≡ 0 = omega arith in
    sym (append-nil out) ∙ ap (λ xs. out ++ xs) (sym (digits-zero w n)) ∙ ap (λ j. out ++ digits w j n) (sym e) ∙ before

-- a digit, and the digits of the rest
pub first_digit : (w k d n n' : ℕ) (ds : List ℕ) → d ≡ n % 2 ^ w → n' ≡ n / 2 ^ w → ds ≡ digits w k n' → d ∷ ds ≡ digits w (suc k) n
first_digit w k d n n' ds is rest more =
    ap (λ x. x ∷ ds) is ∙ ap (λ xs. n % 2 ^ w ∷ xs) (more ∙ ap (digits w k) rest) ∙ sym (digits-suc w k n)

pub eight_digits : (w a b c d e f g h n0 n1 n2 n3 n4 n5 n6 n7 : ℕ)
    → a ≡ n0 % 2 ^ w → n1 ≡ n0 / 2 ^ w → b ≡ n1 % 2 ^ w → n2 ≡ n1 / 2 ^ w → c ≡ n2 % 2 ^ w → n3 ≡ n2 / 2 ^ w → d ≡ n3 % 2 ^ w → n4 ≡ n3 / 2 ^ w
    → e ≡ n4 % 2 ^ w → n5 ≡ n4 / 2 ^ w → f ≡ n5 % 2 ^ w → n6 ≡ n5 / 2 ^ w → g ≡ n6 % 2 ^ w → n7 ≡ n6 / 2 ^ w → h ≡ n7 % 2 ^ w
    → a ∷ b ∷ c ∷ d ∷ e ∷ f ∷ g ∷ h ∷ [] ≡ digits w 8 n0
eight_digits w a b c d e f g h n0 n1 n2 n3 n4 n5 n6 n7 ea e1 eb e2 ec e3 ed e4 ee e5 ef e6 eg e7 eh =
    first_digit w 7 a n0 n1 _ ea e1 (first_digit w 6 b n1 n2 _ eb e2 (first_digit w 5 c n2 n3 _ ec e3 (first_digit w 4 d n3 n4 _ ed e4
    (first_digit w 3 e n4 n5 _ ee e5 (first_digit w 2 f n5 n6 _ ef e6 (first_digit w 1 g n6 n7 _ eg e7 (first_digit w 0 h n7 (n7 / 2 ^ w) [] eh refl (sym (digits-zero w (n7 / 2 ^ w))))))))))

pub number-cons : (w d : ℕ) (ds : List ℕ) → number w (d ∷ ds) ≡ d + 2 ^ w * number w ds
unfolding number
number-cons w d ds = refl

pub number-nil : (w : ℕ) → number w [] ≡ 0
unfolding number
number-nil w = refl

-- a number is below what its digits can count to
pub number_below : (w : ℕ) (ds : List ℕ) → ((i : ℕ) → get_or ds i 0 < 2 ^ w) → number w ds < 2 ^ (w * length ds)
number_below w [] fit = rw (number-nil w) (pow_pos (w * 0))
number_below w (d ∷ ds) fit =
    let rest : number w ds < 2 ^ (w * length ds) = number_below w ds (λ i. fit (suc i)) in
    let whole : d + 2 ^ w * number w ds < 2 ^ (w + w * length ds) = joined d w (number w ds) (w * length ds) (fit 0) rest in
    let e : w + w * length ds ≡ w * length (d ∷ ds) = omega arith in
    rw number-cons (subst (λ (k : ℕ). d + 2 ^ w * number w ds < 2 ^ k) e whole)

pub fit_front : (m size : ℕ) (bytes : List ℕ) → 0 < m → ((i : ℕ) → get_or bytes i 0 < m) → (i : ℕ) → get_or (take size bytes) i 0 < m
fit_front m zero bytes some fit i = some
fit_front m (suc size) [] some fit i = some
fit_front m (suc size) (b ∷ bytes) some fit zero = fit 0
fit_front m (suc size) (b ∷ bytes) some fit (suc i) = fit_front m size bytes some (λ j. fit (suc j)) i

pub number_of_front : (size value : ℕ) (bytes piece : List ℕ) → ((i : ℕ) → get_or bytes i 0 < 2 ^ 8) → piece ≡ take size bytes
    → value ≡ number 8 piece % 2 ^ (size * 8) → value ≡ number 8 (take size bytes)
number_of_front size value bytes piece fit is found =
    let short : length (take size bytes) ≤ size = grind (arith, common_steps) in
    let two : 0 < 2 = omega arith in
    let le : 8 * length (take size bytes) ≤ size * 8 = omega arith in
    let below : number 8 (take size bytes) < 2 ^ (size * 8) =
    omega (arith, number_below 8 (take size bytes) (fit_front 256 size bytes (omega arith) fit), pow-le-pow_right two le) in
    found ∙ ap (λ xs. number 8 xs % 2 ^ (size * 8)) is ∙ mod-eq_of_lt below
