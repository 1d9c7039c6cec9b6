-- Bytes that end inside of groups can be completed.
use Rattle.std.proofs.Common.{◌≡◌, ◌≢◌, ℕ, zero, suc, ◌+◌, ◌-◌, ◌*◌, ◌%◌, ◌^◌, ◌<◌, ◌≤◌, min, Bool, true, false, cond, ◌&&◌, ◌⊎◌, inl, inr, List, [], ◌∷◌, ◌++◌, length, get_or, take, drop, replicate, nat_le, ◌==◌, refl, sym, ap, ◌∙◌, subst, arith}
use Rattle.std.specs.List.{concat}
use Rattle.std.proofs.lemmas.Bool.{cases_lt}
use Rattle.std.proofs.lemmas.Bool.Decides.{nat_tests}
use Rattle.std.proofs.lemmas.List.{length-drop}
use Rattle.std.proofs.lemmas.Nat.{pow_pos, pow-add}
use Rattle.std.proofs.Math.ListN.{length-replicate}
use Rattle.std.proofs.Math.Nat.{pow-le-pow_right, mul-le-mul_left, add-mul-mod_self_left, mod-eq_of_lt}
use Rattle.fd_hybrid.specs.declared.runs.Before.{Before}
use Rattle.fd_hybrid.specs.declared.runs.Before.TheVariants.{Nothing, Repeated, Packed}
use Rattle.fd_hybrid.specs.Digits.{number, digits}
use Rattle.fd_hybrid.specs.Runs.{as_many, equal_next}
use Rattle.fd_hybrid.specs.Format.{byte_count, group_bytes}
use Rattle.fd_hybrid.specs.Unpacker.{repeats, goes_on}
use Rattle.fd_hybrid.proofs.Stretches.{equal_next-le}
use Rattle.fd_hybrid.proofs.DigitLaws.{number_below, digits-suc}
use Rattle.fd_hybrid.proofs.DigitNumbers.{Digits, length-digits, digits_fit, digits-number_all, number-digits, first_digits}
use Rattle.fd_hybrid.proofs.NextRuns.{Groups, Apart}
use Rattle.fd_hybrid.proofs.GroupLaws.{IsBytes, joins}
use Rattle.fd_hybrid.proofs.GroupReads.{Room, room_some, room_less, room_none, fit_both}

-- a list of one value, eight times over
abbrev Same : ℕ → List ℕ → Type 0
Same v xs = (i : ℕ) → i < length xs → get_or xs i 0 ≡ v

full : (v : ℕ) (xs : List ℕ) → length xs ≤ as_many v xs → Same v xs
full v [] le i lt = absurd (omega arith)
full v (x ∷ xs) le i lt = parts (x == v) refl le i lt (full v xs)
  where
    same : (x == v) ≡ true → x ≡ v
    same e = grind (arith, nat_tests)

    parts : (b : Bool) → (x == v) ≡ b → length (x ∷ xs) ≤ cond b (suc (as_many v xs)) 0 → (i : ℕ) → i < length (x ∷ xs) → (length xs ≤ as_many v xs → Same v xs) → get_or (x ∷ xs) i 0 ≡ v
    parts true e le zero lt rest = same e
    parts true e le (suc i) lt rest = rest (omega arith) i (omega arith)
    parts false e le i lt rest = absurd (omega arith)

full_next : (xs : List ℕ) → length xs ≤ equal_next xs → Same (get_or xs 0 0) xs
full_next [] le i lt = absurd (omega arith)
full_next (x ∷ xs) le zero lt = refl
full_next (x ∷ xs) le (suc i) lt = full x xs (omega arith) i (omega arith)

-- two lists of as many equal values that begin alike are one
same_lists : (v : ℕ) (xs ys : List ℕ) → length xs ≡ length ys → Same v xs → Same v ys → xs ≡ ys
same_lists v [] [] e a b = refl
same_lists v [] (y ∷ ys) e a b = absurd (omega arith)
same_lists v (x ∷ xs) [] e a b = absurd (omega arith)
same_lists v (x ∷ xs) (y ∷ ys) e a b =
    let heads : x ≡ y = a 0 (omega arith) ∙ sym (b 0 (omega arith)) in
    let tails : xs ≡ ys = same_lists v xs ys (omega arith) (λ i lt. a (suc i) (omega arith)) (λ i lt. b (suc i) (omega arith)) in
    cc

-- of two groups that differ, but not in their first values, one has no eight equal values
one_varies : (xs ys : List ℕ) → length xs ≡ 8 → length ys ≡ 8 → get_or xs 0 0 ≡ get_or ys 0 0 → xs ≢ ys → (equal_next xs < 8) ⊎ (equal_next ys < 8)
one_varies xs ys ex ey heads differ =
    elim (cases_lt (equal_next xs) 8) [
      | inl lt ↦ inl lt
      | inr ge ↦ elim (cases_lt (equal_next ys) 8) [
        | inl lt ↦ inr lt
        | inr ge' ↦
            let a : Same (get_or xs 0 0) xs = full_next xs (omega arith) in
            let b : Same (get_or ys 0 0) ys = full_next ys (omega arith) in
            let c : Same (get_or xs 0 0) ys = λ i lt. b i lt ∙ sym heads in
            absurd (differ (same_lists (get_or xs 0 0) xs ys (ex ∙ sym ey) a c))
      ]
    ]

zeros_fit : (w n : ℕ) → Digits w (replicate n 0)
zeros_fit w zero i = pow_pos w
zeros_fit w (suc n) zero = pow_pos w
zeros_fit w (suc n) (suc i) = zeros_fit w n i

one_fits : (w : ℕ) → 0 < w → Digits w (1 ∷ [])
one_fits w some zero =
    let base : 0 < 2 = omega arith in
    let le : 1 ≤ w = omega arith in
    let two : 2 ^ 1 ≤ 2 ^ w = pow-le-pow_right base le in
    omega arith
one_fits w some (suc i) = pow_pos w

zeros_vary : (r : ℕ) → r < 8 → equal_next (replicate r 0) < 8
zeros_vary r lt =
    let zs : List ℕ = replicate r 0 in
    let e : length zs ≡ r = length-replicate r 0 in
    let le : equal_next zs ≤ length zs = equal_next-le zs in
    omega arith

group_exists : (w r : ℕ) → 0 < w → r ≤ 8 → (g : List ℕ) × (length g ≡ r) × (equal_next g < 8) × Digits w g
group_exists w r some le =
    elim (cases_lt r 8) [
      | inl lt ↦
          (replicate r 0, length-replicate r 0, zeros_vary r lt, zeros_fit w r)
      | inr ge ↦
          let g : List ℕ = replicate 7 0 ++ 1 ∷ [] in
          let eight : length g ≡ r = omega arith in
          let seven : equal_next g ≡ 7 = refl in
          (g, eight, omega arith, fit_both w (replicate 7 0) (1 ∷ []) (zeros_fit w 7) (one_fits w some))
    ]

-- groups of so many values, whatever they are
pub groups_exist : (w m left : ℕ) → 0 < w → Room m left → (gs : List (List ℕ)) × (length gs ≡ m) × Groups left gs × Digits w (concat gs)
groups_exist w zero left some room = ([], refl, room_none left room, (λ i. pow_pos w))
groups_exist w (suc m) left some room =
    let others = groups_exist w m (left - 8) some (room_less m left room) in
    let one = group_exists w (min left 8) some (omega arith) in
    (one.0 ∷ others.0, ap suc others.1, (room_some m left room, one.1, one.2, others.2), fit_both w one.0 (concat others.0) one.3 others.3)

-- a group that the bytes begin and do not end
pub record Completed (w r : ℕ) (before : Before) (bytes : List ℕ) : Type 0 where
  pub group : List ℕ
  pub more : List ℕ
  pub some : more ≢ []
  pub size : length group ≡ r
  pub varies : equal_next group < 8
  pub fit : Digits w group
  pub apart : Apart before (get_or group 0 0)
  pub spelled : bytes ++ more ≡ group_bytes w group

first_value : (w r n : ℕ) → 0 < r → get_or (digits w r n) 0 0 ≡ n % 2 ^ w
first_value w zero n lt = absurd (omega arith)
first_value w (suc r) n lt = ap (λ xs. get_or xs 0 0) (digits-suc w r n)

by_number : (w r n high : ℕ) (before : Before) (bytes : List ℕ) → 0 < r → IsBytes bytes → length bytes < w
    → n ≡ number 8 bytes + 2 ^ (8 * length bytes) * high → n < 2 ^ (w * r) → equal_next (digits w r n) < 8 → Apart before (n % 2 ^ w) → Completed w r before bytes
by_number w r n high before bytes some fit short is below varies apart =
    let g : List ℕ = digits w r n in
    let j : ℕ = length bytes in
    let back : number w g ≡ n = number-digits w r n below in
    let whole : group_bytes w g ≡ digits 8 w n = ap (digits 8 w) back in
    let within : j ≤ w = omega arith in
    let front : take j (digits 8 w n) ≡ bytes =
    ap (λ m. take j (digits 8 w m)) is ∙ first_digits 8 j w (number 8 bytes) high within ∙ digits-number_all 8 j bytes fit refl in
    let more : List ℕ = drop j (digits 8 w n) in
    let left : 0 < length more = omega (arith, length-drop j (digits 8 w n), length-digits 8 w n) in
    record {
      group = g;
      more = more;
      some = λ e. let none : length more ≡ 0 = ap length e in absurd (omega arith);
      size = length-digits w r n;
      varies = varies;
      fit = digits_fit w r n;
      apart = subst (λ (v : ℕ). Apart before v) (sym (first_value w r n some)) apart;
      spelled = ap (λ xs. xs ++ more) (sym front) ∙ joins j (digits 8 w n) ∙ sym whole;
    }

and_false : (b : Bool) → (b && true) ≡ false → b ≡ false
and_false true h = cc
and_false false h = refl

pub apart_or : (before : Before) (v : ℕ) → Apart before v ⊎ (repeats before v ≡ true)
apart_or Nothing v = inl tt
apart_or Packed v = inl tt
apart_or (Repeated u) v = parts (u == v) refl
  where
    parts : (b : Bool) → (u == v) ≡ b → (u ≢ v) ⊎ ((u == v) ≡ true)
    parts true e = inr e
    parts false e = inl (λ same. let t : (u == v) ≡ true = grind (arith, nat_tests) in cc)

pub repeated_is : (before : Before) (v m : ℕ) → repeats before v ≡ true → v ≢ m → Apart before m
repeated_is Nothing v m h differ = tt
repeated_is Packed v m h differ = tt
repeated_is (Repeated u) v m h differ = λ e. let same : u ≡ v = grind (arith, nat_tests) in differ (sym same ∙ e)

pub pow_le : (i j : ℕ) → i ≤ j → 2 ^ i ≤ 2 ^ j
pow_le i j le = let base : 0 < 2 = omega arith in pow-le-pow_right base le

-- the first value can be told from the one before
first_apart : (w r : ℕ) (before : Before) (bytes : List ℕ) → 0 < r → IsBytes bytes → number 8 bytes < 2 ^ (w * r) → goes_on before w bytes ≡ false
    → (high : ℕ) × (let n : ℕ = number 8 bytes + 2 ^ (8 * length bytes) * high in (n < 2 ^ (w * r)) × (n < 2 ^ (8 * length bytes + 1)) × Apart before (n % 2 ^ w))
first_apart w r before bytes some fit below first =
    let n : ℕ = number 8 bytes in
    let j : ℕ = length bytes in
    let small : n < 2 ^ (8 * j) = number_below 8 bytes fit in
    let twice : 2 ^ (8 * j + 1) ≡ 2 ^ (8 * j) * 2 = pow-add 2 (8 * j) 1 in
    elim (apart_or before (n % 2 ^ w)) [
      | inl apart ↦
          let e : n ≡ n + 2 ^ (8 * j) * 0 = omega arith in
          (0, (omega arith, omega arith, subst (λ (m : ℕ). Apart before (m % 2 ^ w)) e apart))
      | inr same ↦
          let few : nat_le (byte_count w) j ≡ false = and_false (nat_le (byte_count w) j) (ap (λ b. nat_le (byte_count w) j && b) (sym same) ∙ first) in
          let gap : j < byte_count w = gt_of (byte_count w) j few in
          let bits : 8 * j + 1 ≤ w = omega arith in
          let room : w ≤ w * r = omega (arith, mul-le-mul_left w some) in
          let m : ℕ = n + 2 ^ (8 * j) * 1 in
          let below_m : m < 2 ^ (8 * j + 1) = omega arith in
          let le : 2 ^ (8 * j + 1) ≤ 2 ^ w = pow_le (8 * j + 1) w bits in
          let le' : 2 ^ w ≤ 2 ^ (w * r) = pow_le w (w * r) room in
          let n_lt : n < 2 ^ w = omega arith in
          let m_lt : m < 2 ^ w = omega arith in
          let n_is : n % 2 ^ w ≡ n = mod-eq_of_lt n_lt in
          let m_is : m % 2 ^ w ≡ m = mod-eq_of_lt m_lt in
          let more : 0 < 2 ^ (8 * j) = pow_pos (8 * j) in
          let differ : n % 2 ^ w ≢ m % 2 ^ w = λ e. absurd (omega arith) in
          (1, (omega arith, below_m, repeated_is before (n % 2 ^ w) (m % 2 ^ w) same differ))
    ]
  where
    gt_of : (a b : ℕ) → nat_le a b ≡ false → b < a
    gt_of a b h = grind (arith, nat_tests)

pub completed : (w r : ℕ) (before : Before) (bytes : List ℕ) → 0 < w → 0 < r → r ≤ 8 → IsBytes bytes → length bytes < w → number 8 bytes < 2 ^ (w * r)
    → goes_on before w bytes ≡ false → Completed w r before bytes
completed w r before bytes wide some most fit short below first =
    let f = first_apart w r before bytes some fit below first in
    let j : ℕ = length bytes in
    let n : ℕ = number 8 bytes + 2 ^ (8 * j) * f.0 in
    elim (cases_lt r 8) [
      | inl lt ↦ by_number w r n f.0 before bytes some fit short refl f.1.0 (omega (arith, equal_next-le (digits w r n), length-digits w r n)) f.1.2
      | inr ge ↦
          let eight : r ≡ 8 = omega arith in
          let top : ℕ = 2 ^ (8 * w - 1) in
          let m : ℕ = n + top in
          let up : 8 * w - 1 ≡ 8 * j + (8 * w - 1 - 8 * j) = omega arith in
          let high : ℕ = f.0 + 2 ^ (8 * w - 1 - 8 * j) in
          let split_top : top ≡ 2 ^ (8 * j) * 2 ^ (8 * w - 1 - 8 * j) = ap (λ k. 2 ^ k) up ∙ pow-add 2 (8 * j) (8 * w - 1 - 8 * j) in
          let m_is : m ≡ number 8 bytes + 2 ^ (8 * j) * high = omega (arith, split_top) in
          let n_low : n < top = omega (arith, f.1.1, pow_le (8 * j + 1) (8 * w - 1) (omega arith)) in
          let double : w * r ≡ (8 * w - 1) + 1 = ap (λ k. w * k) eight ∙ omega arith in
          let whole : 2 ^ (w * r) ≡ top * 2 = ap (λ k. 2 ^ k) double ∙ pow-add 2 (8 * w - 1) 1 in
          let m_below : m < 2 ^ (w * r) = omega arith in
          let seven : 8 * w - 1 ≡ w + (7 * w - 1) = omega arith in
          let apart_top : top ≡ 2 ^ w * 2 ^ (7 * w - 1) = ap (λ k. 2 ^ k) seven ∙ pow-add 2 w (7 * w - 1) in
          let low : m % 2 ^ w ≡ n % 2 ^ w = ap (λ k. (n + k) % 2 ^ w) apart_top ∙ add-mul-mod_self_left n (2 ^ w) (2 ^ (7 * w - 1)) in
          let heads : get_or (digits w r n) 0 0 ≡ get_or (digits w r m) 0 0 = first_value w r n some ∙ sym low ∙ sym (first_value w r m some) in
          let positive : 0 < top = pow_pos (8 * w - 1) in
          let differ : digits w r n ≢ digits w r m = λ e. let same : n ≡ m = sym (number-digits w r n f.1.0) ∙ ap (number w) e ∙ number-digits w r m m_below in absurd (omega arith) in
          elim (one_varies (digits w r n) (digits w r m) (length-digits w r n ∙ eight) (length-digits w r m ∙ eight) heads differ) [
            | inl lt ↦ by_number w r n f.0 before bytes some fit short refl f.1.0 lt f.1.2
            | inr lt ↦ by_number w r m high before bytes some fit short m_is m_below lt (subst (λ (k : ℕ). Apart before k) (sym low) f.1.2)
          ]
    ]
