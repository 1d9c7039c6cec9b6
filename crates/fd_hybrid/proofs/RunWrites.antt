-- Runs that are written one after another.
use Rattle.std.proofs.Common.{◌≡◌, ◌≢◌, ℕ, zero, suc, ◌+◌, ◌-◌, ◌*◌, ◌/◌, ◌%◌, ◌^◌, ◌<◌, ◌≤◌, min, Bool, true, false, cond, ◌⊎◌, inl, inr, List, [], ◌∷◌, ◌++◌, length, get_or, take, drop, replicate, nat_le, ◌==◌, refl, sym, ap, ◌∙◌, subst, append_assoc, arith}
use Rattle.std.specs.List.{concat, flat_map}
use Rattle.std.proofs.lemmas.List.{append-nil, length-drop, nil_from_length, drop-drop}
use Rattle.std.proofs.lemmas.Bool.Decides.{nat_tests}
use Rattle.std.proofs.lemmas.Nat.{pow_pos}
use Rattle.std.proofs.lemmas.Grind.{common_steps}
use Rattle.fd_hybrid.specs.Digits.{number, digits}
use Rattle.fd_hybrid.specs.Runs.{repeated, packed, as_many, equal_next, AreTaken}
use Rattle.fd_hybrid.specs.Format.{IsVarint, AddsVarint, byte_count, group_bytes, IsSpelling, Fit}
use Rattle.fd_hybrid.specs.Packer.{eights, group_count, PutsGroups, PutsRun}
use Rattle.fd_hybrid.proofs.DigitLaws.{number-cons, number-nil}
use Rattle.fd_hybrid.proofs.DigitNumbers.{Digits}
use Rattle.fd_hybrid.proofs.GroupLaws.{joins, le_true, le_false}
use Rattle.fd_hybrid.proofs.NextRuns.{fit_left, fit_right}
use Rattle.fd_hybrid.proofs.Exactness.{fit_digits, digits_fit}

count-none : (most : ℕ) → group_count most [] ≡ 0
unfolding group_count
count-none most = refl

count-more : (most v : ℕ) (vs : List ℕ) → group_count (suc most) (v ∷ vs) ≡ cond (nat_le 8 (equal_next (v ∷ vs))) 0 (suc (group_count most (drop 8 (v ∷ vs))))
unfolding group_count
count-more most v vs = refl

count-stretch : (most : ℕ) (xs : List ℕ) → 8 ≤ equal_next xs → length xs ≤ most → group_count most xs ≡ 0
count-stretch most [] many le = count-none most
count-stretch zero (v ∷ vs) many le = absurd (omega arith)
count-stretch (suc most) (v ∷ vs) many le = count-more most v vs ∙ ap (λ b. cond b 0 (suc (group_count most (drop 8 (v ∷ vs))))) (le_true 8 (equal_next (v ∷ vs)) many)

count-group : (most : ℕ) (xs : List ℕ) → 0 < length xs → equal_next xs < 8 → group_count (suc most) xs ≡ suc (group_count most (drop 8 xs))
count-group most [] some few = absurd (omega arith)
count-group most (v ∷ vs) some few = count-more most v vs ∙ ap (λ b. cond b 0 (suc (group_count most (drop 8 (v ∷ vs))))) (le_false 8 (equal_next (v ∷ vs)) few)

-- one more group is counted
pub counted : (n groups : ℕ) (rest : List ℕ) (total : ℕ) → 0 < length rest → groups + length rest ≤ n → equal_next rest < 8
    → groups + group_count (n - groups) rest ≡ total → (groups + 1) + group_count (n - (groups + 1)) (drop 8 rest) ≡ total
counted n groups rest total some within few before =
    let fuel : n - groups ≡ suc (n - (groups + 1)) = omega arith in
    let e : group_count (n - groups) rest ≡ suc (group_count (n - (groups + 1)) (drop 8 rest)) = ap (λ k. group_count k rest) fuel ∙ count-group (n - (groups + 1)) rest some few in
    omega arith

pub count_within : (n groups : ℕ) (rest : List ℕ) → 0 < length rest → groups + length rest ≤ n → (groups + 1) + length (drop 8 rest) ≤ n
count_within n groups rest some within = omega (arith, length-drop 8 rest)

pub counted_all : (n groups : ℕ) (rest : List ℕ) (total : ℕ) → groups + length rest ≤ n → 8 ≤ equal_next rest → groups + group_count (n - groups) rest ≡ total → groups ≡ total
counted_all n groups rest total within many before = let e : group_count (n - groups) rest ≡ 0 = count-stretch (n - groups) rest many (omega arith) in omega arith

pub counted_end : (n groups : ℕ) (rest : List ℕ) (total : ℕ) → length rest ≡ 0 → groups + group_count (n - groups) rest ≡ total → groups ≡ total
counted_end n groups rest total none before =
    let e : group_count (n - groups) rest ≡ 0 = ap (group_count (n - groups)) (nil_from_length rest none) ∙ count-none (n - groups) in omega arith

drop-eight : (m : ℕ) (xs : List ℕ) → drop (8 * m) (drop 8 xs) ≡ drop (8 * suc m) xs
drop-eight m xs = let e : 8 + 8 * m ≡ 8 * suc m = omega arith in drop-drop (8 * m) 8 xs ∙ ap (λ k. drop k xs) e

pub concat-eights : (m : ℕ) (xs : List ℕ) → concat (eights m xs) ++ drop (8 * m) xs ≡ xs
concat-eights zero xs = let e : 8 * 0 ≡ 0 = omega arith in ap (λ k. drop k xs) e
concat-eights (suc m) xs =
    append_assoc (take 8 xs) (concat (eights m (drop 8 xs))) (drop (8 * suc m) xs)
    ∙ ap (λ ys. take 8 xs ++ (concat (eights m (drop 8 xs)) ++ ys)) (sym (drop-eight m xs))
    ∙ ap (λ ys. take 8 xs ++ ys) (concat-eights m (drop 8 xs)) ∙ joins 8 xs

pub length-eights : (m : ℕ) (xs : List ℕ) → length (eights m xs) ≡ m
length-eights zero xs = refl
length-eights (suc m) xs = ap suc (length-eights m (drop 8 xs))

length-group : (xs : List ℕ) → length (take 8 xs) ≡ min 8 (length xs)
length-group xs = grind (arith, common_steps)

-- the groups that were counted are those of the run
pub are_taken : (most : ℕ) (xs : List ℕ) → length xs ≤ most → AreTaken (eights (group_count most xs) xs) (drop (8 * group_count most xs) xs)
are_taken most [] le = subst (λ (n : ℕ). AreTaken (eights n []) (drop (8 * n) [])) (sym (count-none most)) (inl refl)
are_taken zero (v ∷ vs) le = absurd (omega arith)
are_taken (suc most) (v ∷ vs) le = go (nat_le 8 (equal_next (v ∷ vs))) refl (are_taken most (drop 8 (v ∷ vs)) (omega (arith, length-drop 8 (v ∷ vs))))
  where
    many_of : nat_le 8 (equal_next (v ∷ vs)) ≡ true → 8 ≤ equal_next (v ∷ vs)
    many_of e = grind (arith, nat_tests)

    few_of : nat_le 8 (equal_next (v ∷ vs)) ≡ false → equal_next (v ∷ vs) < 8
    few_of e = grind (arith, nat_tests)

    go : (b : Bool) → nat_le 8 (equal_next (v ∷ vs)) ≡ b → AreTaken (eights (group_count most (drop 8 (v ∷ vs))) (drop 8 (v ∷ vs))) (drop (8 * group_count most (drop 8 (v ∷ vs))) (drop 8 (v ∷ vs)))
        → AreTaken (eights (group_count (suc most) (v ∷ vs)) (v ∷ vs)) (drop (8 * group_count (suc most) (v ∷ vs)) (v ∷ vs))
    go true e rest =
        let none : group_count (suc most) (v ∷ vs) ≡ 0 = count-more most v vs ∙ ap (λ b. cond b 0 (suc (group_count most (drop 8 (v ∷ vs))))) e in
        let zero_more : 8 * 0 ≡ 0 = omega arith in
        let all : (drop (8 * 0) (v ∷ vs) ≡ []) ⊎ (8 ≤ equal_next (drop (8 * 0) (v ∷ vs))) = inr (subst (λ (k : ℕ). 8 ≤ equal_next (drop k (v ∷ vs))) (sym zero_more) (many_of e)) in
        subst (λ (n : ℕ). AreTaken (eights n (v ∷ vs)) (drop (8 * n) (v ∷ vs))) (sym none) all
    go false e rest =
        let xs : List ℕ = v ∷ vs in
        let m : ℕ = group_count most (drop 8 xs) in
        let more : group_count (suc most) xs ≡ suc m = count-more most v vs ∙ ap (λ b. cond b 0 (suc m)) e in
        let behind : concat (eights m (drop 8 xs)) ++ drop (8 * m) (drop 8 xs) ≡ drop 8 xs = concat-eights m (drop 8 xs) in
        let whole : take 8 xs ++ (concat (eights m (drop 8 xs)) ++ drop (8 * m) (drop 8 xs)) ≡ xs = ap (λ ys. take 8 xs ++ ys) behind ∙ joins 8 xs in
        let size : length (take 8 xs) ≡ min 8 (length xs) = length-group xs in
        let last : length (take 8 xs) < 8 → concat (eights m (drop 8 xs)) ++ drop (8 * m) (drop 8 xs) ≡ [] = λ lt. behind ∙ nil_from_length (drop 8 xs) (omega (arith, lt, length-drop 8 xs)) in
        let all : AreTaken (eights (suc m) xs) (drop (8 * m) (drop 8 xs)) =
        ((omega arith, omega arith, last), subst (λ (ys : List ℕ). equal_next ys < 8) (sym whole) (few_of e), rest) in
        let moved : AreTaken (eights (suc m) xs) (drop (8 * suc m) xs) = subst (λ (ys : List ℕ). AreTaken (eights (suc m) xs) ys) (drop-eight m xs) all in
        subst (λ (n : ℕ). AreTaken (eights n xs) (drop (8 * n) xs)) (sym more) moved

pub fit_front : (w k : ℕ) (xs : List ℕ) → Fit w xs → Fit w (take k xs)
fit_front w k xs fit = digits_fit w (take k xs) (fit_left w (take k xs) (drop k xs) (pow_pos w) (subst (λ (ys : List ℕ). Digits w ys) (sym (joins k xs)) (fit_digits w xs fit)))

pub fit_behind : (w k : ℕ) (xs : List ℕ) → Fit w xs → Fit w (drop k xs)
fit_behind w k xs fit = digits_fit w (drop k xs) (fit_right w (take k xs) (drop k xs) (subst (λ (ys : List ℕ). Digits w ys) (sym (joins k xs)) (fit_digits w xs fit)))

-- one more group is written
pub group_written : (w groups k : ℕ) (rest group others out out' total : List ℕ) → k < groups → group ≡ take 8 rest → others ≡ drop 8 rest → out' ≡ out ++ digits 8 w (number w group)
    → out ++ flat_map (group_bytes w) (eights (groups - k) rest) ≡ total → out' ++ flat_map (group_bytes w) (eights (groups - (k + 1)) others) ≡ total
group_written w groups k rest group others out out' total lt front behind is before =
    let e : groups - k ≡ suc (groups - (k + 1)) = omega arith in
    let m : ℕ = groups - (k + 1) in
    let tail : List ℕ = flat_map (group_bytes w) (eights m (drop 8 rest)) in
    ap (λ ys. out' ++ flat_map (group_bytes w) (eights m ys)) behind ∙ ap (λ ys. ys ++ tail) is ∙ append_assoc out (digits 8 w (number w group)) tail
    ∙ ap (λ ys. out ++ (group_bytes w ys ++ tail)) front ∙ ap (λ n. out ++ flat_map (group_bytes w) (eights n rest)) (sym e) ∙ before

pub group_left : (groups k : ℕ) (rest others total : List ℕ) → k < groups → others ≡ drop 8 rest → drop (8 * (groups - k)) rest ≡ total → drop (8 * (groups - (k + 1))) others ≡ total
group_left groups k rest others total lt behind before =
    let e : 8 * (groups - k) ≡ 8 * suc (groups - (k + 1)) = omega arith in
    ap (drop (8 * (groups - (k + 1)))) behind ∙ drop-eight (groups - (k + 1)) rest ∙ ap (λ n. drop n rest) (sym e) ∙ before

same_of : (v x : ℕ) → (x == v) ≡ true → x ≡ v
same_of v x e = grind (arith, nat_tests)

copies : (v : ℕ) (xs : List ℕ) → xs ≡ replicate (as_many v xs) v ++ drop (as_many v xs) xs
copies v [] = refl
copies v (x ∷ xs) = go (x == v) refl (copies v xs)
  where
    go : (b : Bool) → (x == v) ≡ b → xs ≡ replicate (as_many v xs) v ++ drop (as_many v xs) xs
        → x ∷ xs ≡ replicate (cond b (suc (as_many v xs)) 0) v ++ drop (cond b (suc (as_many v xs)) 0) (x ∷ xs)
    go true e rest = ap (λ y. y ∷ xs) (same_of v x e) ∙ ap (λ ys. v ∷ ys) rest
    go false e rest = refl

-- the maximal stretch stands first
stretch : (xs : List ℕ) → 0 < length xs → xs ≡ replicate (equal_next xs) (get_or xs 0 0) ++ drop (equal_next xs) xs
stretch [] some = absurd (omega arith)
stretch (x ∷ xs) some = ap (λ ys. x ∷ ys) (copies x xs)

first_number : (w : ℕ) (xs : List ℕ) → 0 < length xs → number w (take 1 xs) ≡ get_or xs 0 0
first_number w [] some = absurd (omega arith)
first_number w (x ∷ xs) some = number-cons w x [] ∙ omega (arith, ap (λ k. 2 ^ w * k) (number-nil w))

-- a repeated run is written
pub repeated_put : (w n size : ℕ) (old out new values rest piece : List ℕ) → 0 < length values → n ≡ equal_next values → 8 ≤ n → AddsVarint old out (n * 2) → piece ≡ take 1 values → size ≡ byte_count w
    → new ≡ out ++ digits 8 size (number w piece) → rest ≡ drop n values → PutsRun w old new values rest
repeated_put w n size old out new values rest piece some is many (header, h, e) first count written behind =
    let v : ℕ = get_or values 0 0 in
    let turned : n * 2 ≡ 2 * n = omega arith in
    let whole : values ≡ replicate n v ++ rest =
    stretch values some ∙ ap (λ k. replicate k v ++ drop k values) (sym is) ∙ ap (λ ys. replicate n v ++ ys) (sym behind) in
    let value : number w piece ≡ v = ap (number w) first ∙ first_number w values some in
    record {
      run = repeated n v;
      front = header ++ digits 8 (byte_count w) v;
      is = (header, subst (λ (k : ℕ). IsVarint header k) turned h, refl);
      written = written ∙ ap (λ k. out ++ digits 8 k (number w piece)) count ∙ ap (λ k. out ++ digits 8 (byte_count w) k) value
          ∙ ap (λ ys. ys ++ digits 8 (byte_count w) v) e ∙ append_assoc old header (digits 8 (byte_count w) v);
      goes = λ rs are. (rest, whole, many, is, are);
      shorter = omega (arith, ap length behind, length-drop n values);
    }

some_groups : (most : ℕ) (xs : List ℕ) → 0 < length xs → equal_next xs < 8 → length xs ≤ most → 0 < group_count most xs
some_groups zero xs some few le = absurd (omega arith)
some_groups (suc most) xs some few le = omega (arith, count-group most xs some few)

no_groups : (m : ℕ) (xs : List ℕ) → 0 < m → eights m xs ≢ []
no_groups zero xs lt = absurd (omega arith)
no_groups (suc m) xs lt = λ e. cc

-- a packed run is written
pub packed_put : (w m : ℕ) (old out new values rest : List ℕ) → 0 < length values → equal_next values < 8 → m ≡ group_count (length values) values → AddsVarint old out (m * 2 + 1)
    → PutsGroups w m out new values rest → PutsRun w old new values rest
packed_put w m old out new values rest some few is (header, h, e) (written, behind) =
    let gs : List (List ℕ) = eights m values in
    let positive : 0 < m = omega (arith, is, some_groups (length values) values some few (omega arith)) in
    let count : m * 2 + 1 ≡ 2 * length gs + 1 = omega (arith, length-eights m values) in
    let taken : AreTaken gs (drop (8 * m) values) = subst (λ (k : ℕ). AreTaken (eights k values) (drop (8 * k) values)) (sym is) (are_taken (length values) values (omega arith)) in
    let taken_rest : AreTaken gs rest = subst (λ (ys : List ℕ). AreTaken gs ys) (sym behind) taken in
    let whole : values ≡ concat gs ++ rest = sym (concat-eights m values) ∙ ap (λ ys. concat gs ++ ys) (sym behind) in
    record {
      run = packed gs;
      front = header ++ flat_map (group_bytes w) gs;
      is = (header, subst (λ (k : ℕ). IsVarint header k) count h, refl);
      written = written ∙ ap (λ ys. ys ++ flat_map (group_bytes w) gs) e ∙ append_assoc old header (flat_map (group_bytes w) gs);
      goes = λ rs are. (rest, whole, no_groups m values positive, taken_rest, are);
      shorter = omega (arith, ap length behind, length-drop (8 * m) values);
    }

-- whatever spells the rest, behind the run that was written, completes the spelling
pub run_put : (w : ℕ) (values old new before rest : List ℕ) → ((tail : List ℕ) → IsSpelling w before tail → IsSpelling w values (old ++ tail)) → PutsRun w old new before rest
    → (tail : List ℕ) → IsSpelling w rest tail → IsSpelling w values (new ++ tail)
run_put w values old new before rest so_far p tail (runs, are, spelled) =
    let all : IsSpelling w before (p.front ++ tail) = (p.run ∷ runs, p.goes runs are, (p.front, tail, refl, p.is, spelled)) in
    let same : old ++ (p.front ++ tail) ≡ new ++ tail = sym (append_assoc old p.front tail) ∙ ap (λ ys. ys ++ tail) (sym p.written) in
    subst (λ (ys : List ℕ). IsSpelling w values ys) same (so_far (p.front ++ tail) all)

pub all_put : (w : ℕ) (values out rest : List ℕ) → ((tail : List ℕ) → IsSpelling w rest tail → IsSpelling w values (out ++ tail)) → length rest ≡ 0 → IsSpelling w values out
all_put w values out rest so_far none =
    let nothing : IsSpelling w rest [] = ([], nil_from_length rest none, refl) in
    subst (λ (ys : List ℕ). IsSpelling w values ys) (append-nil out) (so_far [] nothing)

-- the same width under other names
pub as_width : (w a b : ℕ) (out new group : List ℕ) → a ≡ w → b ≡ w → new ≡ out ++ digits 8 a (number b group) → new ≡ out ++ digits 8 w (number w group)
as_width w a b out new group ea eb e = e ∙ ap (λ k. out ++ digits 8 k (number b group)) ea ∙ ap (λ k. out ++ digits 8 w (number k group)) eb

pub as_values : (w b size : ℕ) (out new group : List ℕ) → b ≡ w → new ≡ out ++ digits 8 size (number b group) → new ≡ out ++ digits 8 size (number w group)
as_values w b size out new group eb e = e ∙ ap (λ k. out ++ digits 8 size (number k group)) eb

pub bytes_of_width : (w b size : ℕ) → b ≡ w → size ≡ b / 8 + min 1 (b % 8) → size ≡ byte_count w
bytes_of_width w b size e is = let whole : b / 8 + min 1 (b % 8) ≡ (b + 7) / 8 = omega arith in is ∙ whole ∙ ap (λ k. (k + 7) / 8) e
