-- Bytes that end inside of groups begin the bytes of groups.
use Rattle.std.proofs.Common.{◌≡◌, ◌≢◌, ℕ, zero, suc, ◌+◌, ◌-◌, ◌*◌, ◌%◌, ◌^◌, ◌<◌, ◌≤◌, min, Bool, true, false, not, ◌&&◌, inl, inr, List, [], ◌∷◌, ◌++◌, length, get_or, take, drop, Result, Ok, Err, nat_lt, nat_le, ◌==◌, refl, sym, ap, ◌∙◌, subst, append_assoc, length-append, arith}
use Rattle.std.specs.List.{concat, flat_map, list_all}
use Rattle.std.proofs.Math.Bool.{and-false}
use Rattle.std.proofs.lemmas.Nat.{pow_pos, pow-add}
use Rattle.std.proofs.lemmas.Bool.Decides.{nat_tests}
use Rattle.std.proofs.Math.Nat.{add-mul-mod_self_left, mod-eq_of_lt, mul_assoc}
use Rattle.fd_hybrid.specs.declared.fault.HybridFault.{HybridFault}
use Rattle.fd_hybrid.specs.declared.fault.HybridFault.TheVariants.{Cut}
use Rattle.fd_hybrid.specs.declared.runs.Before.{Before}
use Rattle.fd_hybrid.specs.declared.runs.Before.TheVariants.{Nothing, Repeated, Packed}
use Rattle.fd_hybrid.specs.Digits.{number, digits}
use Rattle.fd_hybrid.specs.Runs.{equal_next}
use Rattle.fd_hybrid.specs.Format.{byte_count, group_bytes}
use Rattle.fd_hybrid.specs.Unpacker.{◌>>=◌, group_at, groups_at, repeats, goes_on}
use Rattle.fd_hybrid.proofs.DigitLaws.{number-cons, number_below, fit_front}
use Rattle.fd_hybrid.proofs.DigitNumbers.{Digits, length-digits, digits_fit, number-digits, number-append}
use Rattle.fd_hybrid.proofs.Loops.{in_turn, groups-none, groups-more}
use Rattle.fd_hybrid.proofs.NextRuns.{Groups, Apart, fit_right}
use Rattle.fd_hybrid.proofs.GroupLaws.{IsBytes, take_all, joins, length-take_within, below_bits, in_bytes, group_by, group-by, le_true}
use Rattle.fd_hybrid.proofs.GroupReads.{chosen, number_zeros, Room, room_some, room_less, fit_both, group_found, was_ok, not_cut, was_false, lt_of}
use Rattle.fd_hybrid.proofs.GroupCompletions.{completed, groups_exist, pow_le}

-- the first value of the bytes is the first of their groups
pub first_read : (w : ℕ) (g rest : List ℕ) → 0 < w → length g ≤ 8 → 0 < length g → Digits w g → number 8 (group_bytes w g ++ rest) % 2 ^ w ≡ get_or g 0 0
first_read w [] rest wide most some fit = absurd (omega arith)
first_read w (v ∷ vs) rest wide most some fit =
    let n : ℕ = number w (v ∷ vs) in
    let front : List ℕ = digits 8 w n in
    let back : number 8 front ≡ n = number-digits 8 w n (in_bytes w n (length (v ∷ vs)) most (number_below w (v ∷ vs) fit)) in
    let long : 8 * length front ≡ w + 7 * w = omega (arith, ap (λ k. 8 * k) (length-digits 8 w n)) in
    let high : ℕ = number 8 rest in
    let p : 2 ^ (8 * length front) * high ≡ 2 ^ w * (2 ^ (7 * w) * high) = ap (λ k. 2 ^ k * high) long ∙ ap (λ k. k * high) (pow-add 2 w (7 * w)) ∙ mul_assoc (2 ^ w) (2 ^ (7 * w)) high in
    let q : 2 ^ w * (number w vs + 2 ^ (7 * w) * high) ≡ 2 ^ w * number w vs + 2 ^ w * (2 ^ (7 * w) * high) = omega arith in
    let whole : number 8 (front ++ rest) ≡ v + 2 ^ w * (number w vs + 2 ^ (7 * w) * high) = omega (arith, number-append 8 front rest, back, p, q, number-cons w v vs) in
    ap (λ k. k % 2 ^ w) whole ∙ add-mul-mod_self_left v (2 ^ w) (number w vs + 2 ^ (7 * w) * high) ∙ mod-eq_of_lt (fit 0)

pub count_within : (w : ℕ) → 0 < w → byte_count w ≤ w
count_within w some = omega arith

and_true : (b : Bool) → (true && b) ≡ false → b ≡ false
and_true b h = h

pub apart_of : (before : Before) (v : ℕ) → repeats before v ≡ false → Apart before v
apart_of Nothing v h = tt
apart_of Packed v h = tt
apart_of (Repeated u) v h = λ e. let same : (u == v) ≡ true = equal u v e in cc
  where
    equal : (u v : ℕ) → u ≡ v → (u == v) ≡ true
    equal u v e = grind (arith, nat_tests)

-- where the first value is there and the run may go on, it isn't the value before
pub apart_first : (w : ℕ) (before : Before) (bytes : List ℕ) (v : ℕ) → byte_count w ≤ length bytes → number 8 bytes % 2 ^ w ≡ v → goes_on before w bytes ≡ false → Apart before v
apart_first w before bytes v le is h =
    let there : nat_le (byte_count w) (length bytes) ≡ true = le_true (byte_count w) (length bytes) le in
    let no : repeats before (number 8 bytes % 2 ^ w) ≡ false = ap (λ b. b && repeats before (number 8 bytes % 2 ^ w)) (sym there) ∙ h in
    apart_of before v (ap (repeats before) (sym is) ∙ no)

-- why a group ends early
pub record Early (w left : ℕ) (bytes : List ℕ) : Type 0 where
  pub short : length bytes < w
  pub below : number 8 bytes < 2 ^ (w * min left 8)

early : (w left : ℕ) (bytes : List ℕ) → IsBytes bytes → group_at w left bytes ≡ Err Cut → Early w left bytes
early w left bytes fit h =
    let n : ℕ = number 8 (take w bytes) in
    let r : ℕ = min left 8 in
    let ds : List ℕ = digits w 8 n in
    let read : group_by w r n bytes ≡ Err Cut = sym (group-by w left n bytes refl) ∙ h in
    elim (chosen (not (list_all (λ v. v == 0) (drop r ds))) _ _ _ read) [
      | inl p ↦ absurd (not_cut p.1)
      | inr p ↦ elim (chosen (nat_lt (length bytes) w) _ _ _ p.1) [
        | inl q ↦ found (was_false _ p.0) (lt_of (length bytes) w q.0)
        | inr q ↦ elim (chosen (nat_le 8 (equal_next (take r ds))) _ _ _ q.1) [
          | inl s ↦ absurd (not_cut s.1)
          | inr s ↦ absurd (was_ok Cut (take r ds, drop w bytes) s.1)
        ]
      ]
    ]
  where
    found : list_all (λ v. v == 0) (drop (min left 8) (digits w 8 (number 8 (take w bytes)))) ≡ true → length bytes < w → Early w left bytes
    found zeros short =
        let all : take w bytes ≡ bytes = take_all w bytes (omega arith) in
        let n : ℕ = number 8 (take w bytes) in
        let r : ℕ = min left 8 in
        let ds : List ℕ = digits w 8 n in
        let g : List ℕ = take r ds in
        let n_is : n ≡ number 8 bytes = ap (number 8) all in
        let long : length bytes ≤ w = omega arith in
        let base : number 8 bytes < 2 ^ (8 * length bytes) = number_below 8 bytes fit in
        let le : 8 * length bytes ≤ w * 8 = omega arith in
        let below : n < 2 ^ (w * 8) = omega (arith, pow_le (8 * length bytes) (w * 8) le) in
        let eight : length ds ≡ 8 = length-digits w 8 n in
        let size : length g ≡ r = length-take_within r ds (omega arith) in
        let none : number w (drop r ds) ≡ 0 = number_zeros w (drop r ds) zeros in
        let sum : number w ds ≡ number w g + 2 ^ (w * length g) * number w (drop r ds) = ap (number w) (sym (joins r ds)) ∙ number-append w g (drop r ds) in
        let product : 2 ^ (w * length g) * number w (drop r ds) ≡ 2 ^ (w * length g) * 0 = ap (λ k. 2 ^ (w * length g) * k) none in
        let back : number w ds ≡ n = number-digits w 8 n below in
        let fits : Digits w g = λ i. fit_front (2 ^ w) r ds (pow_pos w) (digits_fit w 8 n) i in
        let small : number w g < 2 ^ (w * r) = below_bits w r g fits size in
        record { short = short; below = omega arith }

-- groups that the bytes begin and do not end
pub record GroupsCompleted (w m left : ℕ) (before : Before) (bytes : List ℕ) : Type 0 where
  pub groups : List (List ℕ)
  pub more : List ℕ
  pub some : more ≢ []
  pub count : length groups ≡ m
  pub stand : Groups left groups
  pub fit : Digits w (concat groups)
  pub apart : Apart before (get_or (concat groups) 0 0)
  pub spelled : bytes ++ more ≡ flat_map (group_bytes w) groups

pub head_of_both : (xs ys : List ℕ) → 0 < length xs → get_or (xs ++ ys) 0 0 ≡ get_or xs 0 0
head_of_both [] ys some = absurd (omega arith)
head_of_both (x ∷ xs) ys some = refl

longer : (xs ys : List ℕ) → xs ≢ [] → xs ++ ys ≢ []
longer [] ys some = absurd (some refl)
longer (x ∷ xs) ys some = λ e. cc

pub err_is : {A : Type 0} (e d : HybridFault) → (let r : Result A HybridFault = Err e in r ≡ Err d) → e ≡ d
err_is {A} e d h = ap (fault_of e) h
  where
    fault_of : {A : Type 0} → HybridFault → Result A HybridFault → HybridFault
    fault_of e (Ok x) = e
    fault_of e (Err d) = d

pub groups_completed : (w m left : ℕ) (before : Before) (bytes : List ℕ) → 0 < w → IsBytes bytes → Room m left → goes_on before w bytes ≡ false
    → groups_at w m left bytes ≡ Err Cut → GroupsCompleted w m left before bytes
groups_completed w zero left before bytes wide fit room first h = absurd (was_ok Cut ([], bytes) (sym (groups-none w left bytes) ∙ h))
groups_completed w (suc m) left before bytes wide fit room first h =
    step (group_at w left bytes) refl (sym (groups-more w m left bytes) ∙ h) (groups_completed w m (left - 8) Nothing)
  where
    some : 0 < left
    some = room_some m left room

    less : Room m (left - 8)
    less = room_less m left room

    step : (r : Result (List ℕ × List ℕ) HybridFault) → group_at w left bytes ≡ r → in_turn r (groups_at w m (left - 8)) ≡ Err Cut
        → ((bytes : List ℕ) → 0 < w → IsBytes bytes → Room m (left - 8) → goes_on Nothing w bytes ≡ false → groups_at w m (left - 8) bytes ≡ Err Cut → GroupsCompleted w m (left - 8) Nothing bytes)
        → GroupsCompleted w (suc m) left before bytes
    step (Err e) read h rest =
        let cut : group_at w left bytes ≡ Err Cut = read ∙ ap (λ d. Err d) (err_is e Cut h) in
        let why = early w left bytes fit cut in
        let one = completed w (min left 8) before bytes wide (omega (arith, some)) (omega arith) fit why.short why.below first in
        let others = groups_exist w m (left - 8) wide less in
        record {
          groups = one.group ∷ others.0;
          more = one.more ++ flat_map (group_bytes w) others.0;
          some = longer one.more (flat_map (group_bytes w) others.0) one.some;
          count = ap suc others.1;
          stand = (some, one.size, one.varies, others.2);
          fit = fit_both w one.group (concat others.0) one.fit others.3;
          apart = subst (λ (v : ℕ). Apart before v) (sym (head_of_both one.group (concat others.0) (omega (arith, one.size, some)))) one.apart;
          spelled = sym (append_assoc bytes one.more (flat_map (group_bytes w) others.0)) ∙ ap (λ xs. xs ++ flat_map (group_bytes w) others.0) one.spelled;
        }
    step (Ok g) read h rest = others (groups_at w m (left - 8) g.1) refl h
      where
        one : (length g.0 ≡ min left 8) × (equal_next g.0 < 8) × Digits w g.0 × (bytes ≡ group_bytes w g.0 ++ g.1)
        one = group_found w left bytes g fit read

        others : (r : Result (List ℕ × List ℕ) HybridFault) → groups_at w m (left - 8) g.1 ≡ r → ◌>>=◌ {B = List ℕ × List ℕ} r (λ y. Ok (g.0 ++ y.0, y.1)) ≡ Err Cut → GroupsCompleted w (suc m) left before bytes
        others (Ok y) r h = absurd (was_ok Cut (g.0 ++ y.0, y.1) h)
        others (Err e) r h =
            let cut : groups_at w m (left - 8) g.1 ≡ Err Cut = r ∙ ap (λ d. Err d) (err_is e Cut h) in
            let after : IsBytes g.1 = fit_right 8 (group_bytes w g.0) g.1 (subst (λ (xs : List ℕ). IsBytes xs) one.3 fit) in
            let more = rest g.1 wide after less (and-false (nat_le (byte_count w) (length g.1))) cut in
            let size : 0 < length g.0 = omega (arith, one.0, some) in
            let most : length g.0 ≤ 8 = omega (arith, one.0) in
            let long : length bytes ≡ w + length g.1 = ap length one.3 ∙ length-append (group_bytes w g.0) g.1 ∙ ap (λ k. k + length g.1) (length-digits 8 w (number w g.0)) in
            let there : byte_count w ≤ length bytes = omega (arith, count_within w wide) in
            let first_is : number 8 bytes % 2 ^ w ≡ get_or g.0 0 0 = ap (λ xs. number 8 xs % 2 ^ w) one.3 ∙ first_read w g.0 g.1 wide most size one.2 in
            record {
              groups = g.0 ∷ more.groups;
              more = more.more;
              some = more.some;
              count = ap suc more.count;
              stand = (some, one.0, one.1, more.stand);
              fit = fit_both w g.0 (concat more.groups) one.2 more.fit;
              apart = subst (λ (v : ℕ). Apart before v) (sym (head_of_both g.0 (concat more.groups) size)) (apart_first w before bytes (get_or g.0 0 0) there first_is first);
              spelled = ap (λ xs. xs ++ more.more) one.3 ∙ append_assoc (group_bytes w g.0) g.1 more.more ∙ ap (λ xs. group_bytes w g.0 ++ xs) more.spelled;
            }
