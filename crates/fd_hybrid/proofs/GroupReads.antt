-- What was read as groups is spelled so; what ends inside of a group can be completed.
use Rattle.std.proofs.Common.{◌≡◌, ◌≢◌, ℕ, zero, suc, ◌+◌, ◌-◌, ◌*◌, ◌^◌, ◌<◌, ◌≤◌, min, Bool, true, false, cond, not, ◌&&◌, ◌||◌, ◌⊎◌, inl, inr, List, [], ◌∷◌, ◌++◌, length, take, drop, Result, Ok, Err, nat_lt, nat_le, ◌==◌, refl, sym, ap, ◌∙◌, subst, append_assoc, arith}
use Rattle.std.specs.List.{concat, flat_map, list_all}
use Rattle.std.proofs.lemmas.Bool.Decides.{nat_tests}
use Rattle.std.proofs.lemmas.Nat.{pow_pos}
use Rattle.fd_hybrid.specs.declared.fault.HybridFault.{HybridFault}
use Rattle.fd_hybrid.specs.declared.fault.HybridFault.TheVariants.{Cut, BadRun}
use Rattle.fd_hybrid.specs.Digits.{number, digits}
use Rattle.fd_hybrid.specs.Runs.{equal_next}
use Rattle.fd_hybrid.specs.Format.{group_bytes}
use Rattle.fd_hybrid.specs.Unpacker.{◌>>=◌, group_at, groups_at, fits_in}
use Rattle.fd_hybrid.proofs.DigitLaws.{number-cons, number-nil, fit_front}
use Rattle.fd_hybrid.proofs.DigitNumbers.{Digits, length-digits, digits_fit, digits-number_all, number-digits, number-append}
use Rattle.fd_hybrid.proofs.Loops.{in_turn, groups-none, groups-more, ok_is}
use Rattle.fd_hybrid.proofs.NextRuns.{Groups, fit_right}
use Rattle.fd_hybrid.proofs.GroupLaws.{IsBytes, joins, length-take_within, below_bits, group_by, group-by, lt_true, le_true}

-- one test in a row of refusals was passed, or it ended the reading
pub chosen : {A : Type 0} (b : Bool) (x y z : A) → cond b x y ≡ z → ((b ≡ true) × (x ≡ z)) ⊎ ((b ≡ false) × (y ≡ z))
chosen true x y z h = inl (refl, h)
chosen false x y z h = inr (refl, h)

pub not_ok : {A : Type 0} (e : HybridFault) (x : A) → (let r : Result A HybridFault = Err e in r ≡ Ok x) → ⊥
not_ok e x h = cc

pub was_ok : {A : Type 0} (e : HybridFault) (x : A) → (let r : Result A HybridFault = Ok x in r ≡ Err e) → ⊥
was_ok e x h = cc

pub not_cut : {A : Type 0} → (let r : Result A HybridFault = Err BadRun in r ≡ Err Cut) → ⊥
not_cut {A} h = cc

pub was_false : (b : Bool) → not b ≡ false → b ≡ true
was_false true h = refl
was_false false h = cc

pub ge_of : (a b : ℕ) → nat_lt a b ≡ false → b ≤ a
ge_of a b h = grind (arith, nat_tests)

pub lt_of : (a b : ℕ) → nat_lt a b ≡ true → a < b
lt_of a b h = grind (arith, nat_tests)

pub gt_of : (a b : ℕ) → nat_le a b ≡ false → b < a
gt_of a b h = grind (arith, nat_tests)

zero_is : (z : ℕ) → (z == 0) ≡ true → z ≡ 0
zero_is z e = grind (arith, nat_tests)

-- a list of zeros is the number 0
pub number_zeros : (w : ℕ) (zs : List ℕ) → list_all (λ v. v == 0) zs ≡ true → number w zs ≡ 0
number_zeros w [] h = number-nil w
number_zeros w (z ∷ zs) h = parts (z == 0) refl h (number_zeros w zs)
  where
    parts : (b : Bool) → (z == 0) ≡ b → (b && list_all (λ v. v == 0) zs) ≡ true → (list_all (λ v. v == 0) zs ≡ true → number w zs ≡ 0) → number w (z ∷ zs) ≡ 0
    parts true e rest none =
        let p : 2 ^ w * number w zs ≡ 2 ^ w * 0 = ap (λ k. 2 ^ w * k) (none rest) in
        omega (arith, number-cons w z zs, zero_is z e, p)
    parts false e rest none = cc

pub group_found : (w left : ℕ) (bytes : List ℕ) (x : List ℕ × List ℕ) → IsBytes bytes → group_at w left bytes ≡ Ok x
    → (length x.0 ≡ min left 8) × (equal_next x.0 < 8) × Digits w x.0 × (bytes ≡ group_bytes w x.0 ++ x.1)
group_found w left bytes x fit h =
    let front : List ℕ = take w bytes in
    let n : ℕ = number 8 front in
    let r : ℕ = min left 8 in
    let ds : List ℕ = digits w 8 n in
    let read : group_by w r n bytes ≡ Ok x = sym (group-by w left n bytes refl) ∙ h in
    elim (chosen (not (list_all (λ v. v == 0) (drop r ds))) _ _ _ read) [
      | inl p ↦ absurd (not_ok BadRun x p.1)
      | inr p ↦ elim (chosen (nat_lt (length bytes) w) _ _ _ p.1) [
        | inl q ↦ absurd (not_ok Cut x q.1)
        | inr q ↦ elim (chosen (nat_le 8 (equal_next (take r ds))) _ _ _ q.1) [
          | inl s ↦ absurd (not_ok BadRun x s.1)
          | inr s ↦ found (was_false _ p.0) (ge_of (length bytes) w q.0) (gt_of 8 (equal_next (take r ds)) s.0) (ok_is (take r ds, drop w bytes) x s.1)
        ]
      ]
    ]
  where
    found : list_all (λ v. v == 0) (drop (min left 8) (digits w 8 (number 8 (take w bytes)))) ≡ true → w ≤ length bytes → equal_next (take (min left 8) (digits w 8 (number 8 (take w bytes)))) < 8
        → (take (min left 8) (digits w 8 (number 8 (take w bytes))), drop w bytes) ≡ x
        → (length x.0 ≡ min left 8) × (equal_next x.0 < 8) × Digits w x.0 × (bytes ≡ group_bytes w x.0 ++ x.1)
    found zeros long short e =
        let front : List ℕ = take w bytes in
        let n : ℕ = number 8 front in
        let r : ℕ = min left 8 in
        let ds : List ℕ = digits w 8 n in
        let g : List ℕ = take r ds in
        let eight : length ds ≡ 8 = length-digits w 8 n in
        let size : length g ≡ r = length-take_within r ds (omega arith) in
        let whole : length front ≡ w = length-take_within w bytes long in
        let front_fit : IsBytes front = fit_front 256 w bytes (omega arith) fit in
        let below : n < 2 ^ (8 * w) = below_bits 8 w front front_fit whole in
        let turned : 8 * w ≡ w * 8 = omega arith in
        let back : number w ds ≡ n = number-digits w 8 n (subst (λ (k : ℕ). n < 2 ^ k) turned below) in
        let none : number w (drop r ds) ≡ 0 = number_zeros w (drop r ds) zeros in
        let sum : number w ds ≡ number w g + 2 ^ (w * length g) * number w (drop r ds) = ap (number w) (sym (joins r ds)) ∙ number-append w g (drop r ds) in
        let product : 2 ^ (w * length g) * number w (drop r ds) ≡ 2 ^ (w * length g) * 0 = ap (λ k. 2 ^ (w * length g) * k) none in
        let same : number w g ≡ n = omega arith in
        let spelled : group_bytes w g ≡ front = ap (digits 8 w) same ∙ digits-number_all 8 w front front_fit whole in
        let ge : g ≡ x.0 = ap (λ (p : List ℕ × List ℕ). p.0) e in
        let re : drop w bytes ≡ x.1 = ap (λ (p : List ℕ × List ℕ). p.1) e in
        let fits : Digits w g = λ i. fit_front (2 ^ w) r ds (pow_pos w) (digits_fit w 8 n) i in (
          ap length (sym ge) ∙ size,
          subst (λ (xs : List ℕ). equal_next xs < 8) ge short,
          subst (λ (xs : List ℕ). Digits w xs) ge fits,
          sym (joins w bytes) ∙ ap (λ xs. xs ++ drop w bytes) (sym spelled) ∙ ap (λ xs. group_bytes w g ++ xs) re ∙ ap (λ xs. group_bytes w xs ++ x.1) ge,
        )

-- so many groups of eight take all the values, the last not empty, or leave eight or more
abbrev pub Room : ℕ → ℕ → Type 0
Room m left = ((left ≤ 8 * m) × (8 * m < left + 8)) ⊎ (8 * m + 8 ≤ left)

pub le_of : (a b : ℕ) → nat_le a b ≡ true → a ≤ b
le_of a b h = grind (arith, nat_tests)

pub room_of : (m left : ℕ) → fits_in m left ≡ true → Room m left
room_of m left h = parts (nat_le left (8 * m)) (nat_lt (8 * m) (left + 8)) (nat_le (8 * m + 8) left) refl refl refl h
  where
    parts : (a b c : Bool) → nat_le left (8 * m) ≡ a → nat_lt (8 * m) (left + 8) ≡ b → nat_le (8 * m + 8) left ≡ c → ((a && b) || c) ≡ true → Room m left
    parts true true c p q r e = inl (le_of left (8 * m) p, lt_of (8 * m) (left + 8) q)
    parts a b true p q r e = inr (le_of (8 * m + 8) left r)
    parts true false false p q r e = cc
    parts false b false p q r e = cc

or_true : (b : Bool) → (b || true) ≡ true
or_true true = refl
or_true false = refl

pub of_room : (m left : ℕ) → Room m left → fits_in m left ≡ true
of_room m left (inl p) = ap (λ b. (b && nat_lt (8 * m) (left + 8)) || nat_le (8 * m + 8) left) (le_true left (8 * m) p.0) ∙ ap (λ b. b || nat_le (8 * m + 8) left) (lt_true (8 * m) (left + 8) p.1)
of_room m left (inr p) = ap (λ b. (nat_le left (8 * m) && nat_lt (8 * m) (left + 8)) || b) (le_true (8 * m + 8) left p) ∙ or_true (nat_le left (8 * m) && nat_lt (8 * m) (left + 8))

pub room_some : (m left : ℕ) → Room (suc m) left → 0 < left
room_some m left (inl p) = omega arith
room_some m left (inr p) = omega arith

pub room_less : (m left : ℕ) → Room (suc m) left → Room m (left - 8)
room_less m left (inl p) = inl (omega arith, omega arith)
room_less m left (inr p) = inr (omega arith)

pub room_none : (left : ℕ) → Room 0 left → (left ≡ 0) ⊎ (8 ≤ left)
room_none left (inl p) = inl (omega arith)
room_none left (inr p) = inr (omega arith)

pub groups_room : (gs : List (List ℕ)) (left : ℕ) → gs ≢ [] → Groups left gs → Room (length gs) left
groups_room [] left some h = absurd (some refl)
groups_room (g ∷ []) left some h = last h.3
  where
    last : (left - 8 ≡ 0) ⊎ (8 ≤ left - 8) → Room (length (g ∷ [])) left
    last (inl none) = inl (omega (arith, h.0), omega (arith, h.0))
    last (inr many) = inr (omega arith)
groups_room (g ∷ k ∷ gs) left some h = more (groups_room (k ∷ gs) (left - 8) (λ e. cc) h.3)
  where
    more : Room (length (k ∷ gs)) (left - 8) → Room (length (g ∷ k ∷ gs)) left
    more (inl p) = inl (omega (arith, p.0, h.3.0), omega (arith, p.1, h.3.0))
    more (inr p) = inr (omega arith)

-- what was read as groups
pub record GroupsRead (w m left : ℕ) (bytes values rest : List ℕ) : Type 0 where
  pub groups : List (List ℕ)
  pub count : length groups ≡ m
  pub stand : Groups left groups
  pub fit : Digits w (concat groups)
  pub are : values ≡ concat groups
  pub spelled : bytes ≡ flat_map (group_bytes w) groups ++ rest

pub fit_both : (w : ℕ) (xs ys : List ℕ) → Digits w xs → Digits w ys → Digits w (xs ++ ys)
fit_both w [] ys a b i = b i
fit_both w (x ∷ xs) ys a b zero = a 0
fit_both w (x ∷ xs) ys a b (suc i) = fit_both w xs ys (λ j. a (suc j)) b i

pub groups_found : (w m left : ℕ) (bytes : List ℕ) (x : List ℕ × List ℕ) → IsBytes bytes → Room m left → groups_at w m left bytes ≡ Ok x
    → GroupsRead w m left bytes x.0 x.1
groups_found w zero left bytes x fit room h =
    let e : ([], bytes) ≡ x = ok_is ([], bytes) x (sym (groups-none w left bytes) ∙ h) in
    record {
      groups = [];
      count = refl;
      stand = room_none left room;
      fit = λ i. pow_pos w;
      are = sym (ap (λ (p : List ℕ × List ℕ). p.0) e);
      spelled = ap (λ (p : List ℕ × List ℕ). p.1) e;
    }
groups_found w (suc m) left bytes x fit room h =
    step (group_at w left bytes) refl (sym (groups-more w m left bytes) ∙ h) (groups_found w m (left - 8))
  where
    step : (r : Result (List ℕ × List ℕ) HybridFault) → group_at w left bytes ≡ r → in_turn r (groups_at w m (left - 8)) ≡ Ok x
        → ((bytes : List ℕ) (x : List ℕ × List ℕ) → IsBytes bytes → Room m (left - 8) → groups_at w m (left - 8) bytes ≡ Ok x → GroupsRead w m (left - 8) bytes x.0 x.1)
        → GroupsRead w (suc m) left bytes x.0 x.1
    step (Err e) first h rest = absurd (not_ok e x h)
    step (Ok g) first h rest = others (groups_at w m (left - 8) g.1) refl h
      where
        one : (length g.0 ≡ min left 8) × (equal_next g.0 < 8) × Digits w g.0 × (bytes ≡ group_bytes w g.0 ++ g.1)
        one = group_found w left bytes g fit first

        others : (r : Result (List ℕ × List ℕ) HybridFault) → groups_at w m (left - 8) g.1 ≡ r → (r >>= λ y. Ok (g.0 ++ y.0, y.1)) ≡ Ok x → GroupsRead w (suc m) left bytes x.0 x.1
        others (Err e) read h = absurd (not_ok e x h)
        others (Ok y) read h =
            let after : IsBytes g.1 = fit_right 8 (group_bytes w g.0) g.1 (subst (λ (xs : List ℕ). IsBytes xs) one.3 fit) in
            let more = rest g.1 y after (room_less m left room) read in
            let e : (g.0 ++ y.0, y.1) ≡ x = ok_is (g.0 ++ y.0, y.1) x h in
            record {
              groups = g.0 ∷ more.groups;
              count = ap suc more.count;
              stand = (room_some m left room, one.0, one.1, more.stand);
              fit = fit_both w g.0 (concat more.groups) one.2 more.fit;
              are = sym (ap (λ (p : List ℕ × List ℕ). p.0) e) ∙ ap (λ xs. g.0 ++ xs) more.are;
              spelled = one.3 ∙ ap (λ xs. group_bytes w g.0 ++ xs) more.spelled ∙ sym (append_assoc (group_bytes w g.0) (flat_map (group_bytes w) more.groups) y.1)
                  ∙ ap (λ xs. (group_bytes w g.0 ++ flat_map (group_bytes w) more.groups) ++ xs) (ap (λ (p : List ℕ × List ℕ). p.1) e);
            }
