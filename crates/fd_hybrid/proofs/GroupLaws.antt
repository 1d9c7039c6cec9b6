-- Groups are read exactly where they are spelled.
use Rattle.std.proofs.Common.{◌≡◌, ◌≢◌, ℕ, zero, suc, ◌+◌, ◌-◌, ◌*◌, ◌^◌, ◌<◌, ◌≤◌, min, true, false, not, ◌⊎◌, inl, inr, List, [], ◌∷◌, ◌++◌, length, take, drop, Result, Ok, Err, nat_lt, nat_le, ◌==◌, if◌then◌else◌, refl, sym, ap, ◌∙◌, subst, append_assoc, length-append, arith}
use Rattle.std.specs.List.{concat, flat_map, list_all}
use Rattle.std.proofs.lemmas.Bool.Decides.{nat_tests}
use Rattle.std.proofs.lemmas.Nat.{pow_pos}
use Rattle.std.proofs.Math.Nat.{pow-le-pow_right, mul-le-mul_left}
use Rattle.fd_hybrid.specs.declared.fault.HybridFault.{HybridFault}
use Rattle.fd_hybrid.specs.declared.fault.HybridFault.TheVariants.{Cut, BadRun}
use Rattle.fd_hybrid.specs.Digits.{number, digits}
use Rattle.fd_hybrid.specs.Runs.{equal_next}
use Rattle.fd_hybrid.specs.Format.{group_bytes}
use Rattle.fd_hybrid.specs.Unpacker.{◌>>=◌, group_at, groups_at}
use Rattle.fd_hybrid.proofs.DigitLaws.{number_below}
use Rattle.fd_hybrid.proofs.DigitNumbers.{Digits, length-digits, digits-number, number-digits, number-append, zeros_above}
use Rattle.fd_hybrid.proofs.Loops.{in_turn, groups-none, groups-more}
use Rattle.fd_hybrid.proofs.NextRuns.{Groups, fit_left, fit_right}

-- bytes are digits in base 2 ^ 8
abbrev pub IsBytes : List ℕ → Type 0
IsBytes bytes = Digits 8 bytes

pub take_front : (k : ℕ) (xs ys : List ℕ) → length xs ≡ k → take k (xs ++ ys) ≡ xs
take_front zero [] ys e = refl
take_front (suc k) [] ys e = absurd (omega arith)
take_front zero (x ∷ xs) ys e = absurd (omega arith)
take_front (suc k) (x ∷ xs) ys e = ap (λ zs. x ∷ zs) (take_front k xs ys (omega arith))

pub drop_front : (k : ℕ) (xs ys : List ℕ) → length xs ≡ k → drop k (xs ++ ys) ≡ ys
drop_front zero [] ys e = refl
drop_front (suc k) [] ys e = absurd (omega arith)
drop_front zero (x ∷ xs) ys e = absurd (omega arith)
drop_front (suc k) (x ∷ xs) ys e = drop_front k xs ys (omega arith)

pub take_all : (k : ℕ) (xs : List ℕ) → length xs ≤ k → take k xs ≡ xs
take_all zero [] le = refl
take_all (suc k) [] le = refl
take_all zero (x ∷ xs) le = absurd (omega arith)
take_all (suc k) (x ∷ xs) le = ap (λ zs. x ∷ zs) (take_all k xs (omega arith))

pub joins : (k : ℕ) (xs : List ℕ) → take k xs ++ drop k xs ≡ xs
joins zero xs = refl
joins (suc k) [] = refl
joins (suc k) (x ∷ xs) = ap (λ zs. x ∷ zs) (joins k xs)

pub length-take_within : (k : ℕ) (xs : List ℕ) → k ≤ length xs → length (take k xs) ≡ k
length-take_within zero xs le = refl
length-take_within (suc k) [] le = absurd (omega arith)
length-take_within (suc k) (x ∷ xs) le = ap suc (length-take_within k xs (omega arith))

pub not_empty : (t : List ℕ) → t ≢ [] → 0 < length t
not_empty [] h = absurd (h refl)
not_empty (x ∷ t) h = omega arith

pub below_bits : (w r : ℕ) (g : List ℕ) → Digits w g → length g ≡ r → number w g < 2 ^ (w * r)
below_bits w r g fit e = subst (λ (n : ℕ). number w g < 2 ^ (w * n)) e (number_below w g fit)

-- a group's number fits the group's bytes
pub in_bytes : (w n r : ℕ) → r ≤ 8 → n < 2 ^ (w * r) → n < 2 ^ (8 * w)
in_bytes w n r le lt =
    let two : 0 < 2 = omega arith in
    let more : w * r ≤ 8 * w = omega (arith, mul-le-mul_left w le) in
    omega (arith, pow-le-pow_right two more)

pub lt_false : (a b : ℕ) → b ≤ a → nat_lt a b ≡ false
lt_false a b le = grind (arith, nat_tests)

pub lt_true : (a b : ℕ) → a < b → nat_lt a b ≡ true
lt_true a b lt = grind (arith, nat_tests)

pub le_false : (a b : ℕ) → b < a → nat_le a b ≡ false
le_false a b lt = grind (arith, nat_tests)

pub le_true : (a b : ℕ) → a ≤ b → nat_le a b ≡ true
le_true a b le = grind (arith, nat_tests)

-- how a group is read, by its number
abbrev pub group_by : ℕ → ℕ → ℕ → List ℕ → Result (List ℕ × List ℕ) HybridFault
group_by w taken n bytes =
    if not (list_all (λ v. v == 0) (drop taken (digits w 8 n))) then Err BadRun
    else if nat_lt (length bytes) w then Err Cut
    else if nat_le 8 (equal_next (take taken (digits w 8 n))) then Err BadRun
    else Ok (take taken (digits w 8 n), drop w bytes)

pub group-by : (w left n : ℕ) (bytes : List ℕ) → number 8 (take w bytes) ≡ n → group_at w left bytes ≡ group_by w (min left 8) n bytes
unfolding group_at
group-by w left n bytes e = ap (λ m. group_by w (min left 8) m bytes) e

pub group_ok : (w left : ℕ) (g rest : List ℕ) → Digits w g → length g ≡ min left 8 → equal_next g < 8 → group_at w left (group_bytes w g ++ rest) ≡ Ok (g, rest)
group_ok w left g rest fit size short =
    let n : ℕ = number w g in
    let r : ℕ = min left 8 in
    let front : List ℕ = digits 8 w n in
    let long : length front ≡ w = length-digits 8 w n in
    let below : n < 2 ^ (w * r) = below_bits w r g fit size in
    let e : number 8 (take w (front ++ rest)) ≡ n = ap (number 8) (take_front w front rest long) ∙ number-digits 8 w n (in_bytes w n r (omega arith) below) in
    let zeros : list_all (λ v. v == 0) (drop r (digits w 8 n)) ≡ true = zeros_above w r 8 n below in
    let whole : nat_lt (length (front ++ rest)) w ≡ false = lt_false (length (front ++ rest)) w (omega (arith, length-append front rest)) in
    let most : length g ≤ 8 = omega arith in
    let back : take r (digits w 8 n) ≡ g = ap (λ k. take k (digits w 8 n)) (sym size) ∙ digits-number w 8 g fit most in
    let few : nat_le 8 (equal_next (take r (digits w 8 n))) ≡ false = ap (λ xs. nat_le 8 (equal_next xs)) back ∙ le_false 8 (equal_next g) short in
    group-by w left n (front ++ rest) e
    ∙ ap (λ b. if not b then Err BadRun else if nat_lt (length (front ++ rest)) w then Err Cut else if nat_le 8 (equal_next (take r (digits w 8 n))) then Err BadRun else Ok (take r (digits w 8 n), drop w (front ++ rest))) zeros
    ∙ ap (λ b. if b then Err Cut else if nat_le 8 (equal_next (take r (digits w 8 n))) then Err BadRun else Ok (take r (digits w 8 n), drop w (front ++ rest))) whole
    ∙ ap (λ b. if b then Err BadRun else Ok (take r (digits w 8 n), drop w (front ++ rest))) few
    ∙ ap (λ xs. Ok (xs, drop w (front ++ rest))) back ∙ ap (λ xs. Ok (g, xs)) (drop_front w front rest long)

pub group_cut : (w left : ℕ) (g c t : List ℕ) → Digits w g → length g ≡ min left 8 → t ≢ [] → c ++ t ≡ group_bytes w g → group_at w left c ≡ Err Cut
group_cut w left g c t fit size some e =
    let n : ℕ = number w g in
    let r : ℕ = min left 8 in
    let below : n < 2 ^ (w * r) = below_bits w r g fit size in
    let count : length c + length t ≡ w = sym (length-append c t) ∙ ap length e ∙ length-digits 8 w n in
    let more : 0 < length t = not_empty t some in
    let all : take w c ≡ c = take_all w c (omega arith) in
    let whole : number 8 (c ++ t) ≡ n = ap (number 8) e ∙ number-digits 8 w n (in_bytes w n r (omega arith) below) in
    let small : number 8 c < 2 ^ (w * r) = omega (arith, number-append 8 c t) in
    let zeros : list_all (λ v. v == 0) (drop r (digits w 8 (number 8 c))) ≡ true = zeros_above w r 8 (number 8 c) small in
    let ends : nat_lt (length c) w ≡ true = lt_true (length c) w (omega arith) in
    group-by w left (number 8 c) c (ap (number 8) all)
    ∙ ap (λ b. if not b then Err BadRun else if nat_lt (length c) w then Err Cut else if nat_le 8 (equal_next (take r (digits w 8 (number 8 c)))) then Err BadRun else Ok (take r (digits w 8 (number 8 c)), drop w c)) zeros
    ∙ ap (λ b. if b then Err Cut else if nat_le 8 (equal_next (take r (digits w 8 (number 8 c)))) then Err BadRun else Ok (take r (digits w 8 (number 8 c)), drop w c)) ends

-- where two lists make one, one of them ends first
pub split : (a b c d : List ℕ) → a ++ b ≡ c ++ d → ((x : List ℕ) × (a ≡ c ++ x) × (x ++ b ≡ d)) ⊎ ((y : List ℕ) × (y ≢ []) × (c ≡ a ++ y) × (b ≡ y ++ d))
split a b [] d e = inl (a, refl, e)
split [] b (z ∷ c) d e = inr (z ∷ c, (λ h. cc), refl, e)
split (x ∷ a) b (z ∷ c) d e =
    let head : x ≡ z = cc in
    let tail : a ++ b ≡ c ++ d = cc in
    elim (split a b c d tail) [
      | inl p ↦ inl (p.0, (let q : a ≡ c ++ p.0 = p.1 in cc), p.2)
      | inr p ↦ inr (p.0, p.1, (let q : c ≡ a ++ p.0 = p.2 in cc), p.3)
    ]

pub groups_ok : (w left : ℕ) (gs : List (List ℕ)) (rest : List ℕ) → Digits w (concat gs) → Groups left gs
    → groups_at w (length gs) left (flat_map (group_bytes w) gs ++ rest) ≡ Ok (concat gs, rest)
groups_ok w left [] rest fit h = groups-none w left rest
groups_ok w left (g ∷ gs) rest fit h =
    let others : List ℕ = flat_map (group_bytes w) gs ++ rest in
    let first : Digits w g = fit_left w g (concat gs) (pow_pos w) fit in
    groups-more w (length gs) left ((group_bytes w g ++ flat_map (group_bytes w) gs) ++ rest)
    ∙ ap (λ bytes. in_turn (group_at w left bytes) (groups_at w (length gs) (left - 8))) (append_assoc (group_bytes w g) (flat_map (group_bytes w) gs) rest)
    ∙ ap (λ r. in_turn r (groups_at w (length gs) (left - 8))) (group_ok w left g others first h.1 h.2)
    ∙ ap (λ r. r >>= λ y. Ok (g ++ y.0, y.1)) (groups_ok w (left - 8) gs rest (fit_right w g (concat gs) fit) h.3)

pub groups_cut : (w left : ℕ) (gs : List (List ℕ)) (c t : List ℕ) → Digits w (concat gs) → Groups left gs → t ≢ [] → c ++ t ≡ flat_map (group_bytes w) gs
    → groups_at w (length gs) left c ≡ Err Cut
groups_cut w left [] c t fit h some e = let none : length (c ++ t) ≡ 0 = ap length e in absurd (omega (arith, length-append c t, not_empty t some))
groups_cut w left (g ∷ gs) c t fit h some e =
    let first : Digits w g = fit_left w g (concat gs) (pow_pos w) fit in
    elim (split c t (group_bytes w g) (flat_map (group_bytes w) gs) e) [
      | inl p ↦
          groups-more w (length gs) left c ∙ ap (λ bytes. in_turn (group_at w left bytes) (groups_at w (length gs) (left - 8))) p.1
          ∙ ap (λ r. in_turn r (groups_at w (length gs) (left - 8))) (group_ok w left g p.0 first h.1 h.2)
          ∙ ap (λ r. r >>= λ y. Ok (g ++ y.0, y.1)) (groups_cut w (left - 8) gs p.0 t (fit_right w g (concat gs) fit) h.3 some p.2)
      | inr p ↦
          groups-more w (length gs) left c
          ∙ ap (λ r. in_turn r (groups_at w (length gs) (left - 8))) (group_cut w left g c p.0 first h.1 p.1 (sym p.2))
    ]
