-- One run is read exactly where it may stand.
use Rattle.std.proofs.Common.{◌≡◌, ◌≢◌, ℕ, ◌+◌, ◌-◌, ◌*◌, ◌/◌, ◌%◌, ◌^◌, ◌<◌, ◌≤◌, min, Bool, true, false, not, ◌&&◌, ◌||◌, inl, inr, List, [], ◌∷◌, ◌++◌, length, get_or, take, drop, replicate, Result, Ok, Err, nat_lt, nat_le, ◌==◌, if◌then◌else◌, refl, sym, ap, ◌∙◌, append_assoc, length-append, arith}
use Rattle.std.specs.List.{concat, flat_map}
use Rattle.std.proofs.lemmas.Bool.Decides.{nat_tests}
use Rattle.std.proofs.lemmas.Bool.{cases_lt}
use Rattle.std.proofs.lemmas.Nat.{pow_pos, pow-add}
use Rattle.std.proofs.Math.Nat.{add-mul-mod_self_left, mul_assoc}
use Rattle.fd_hybrid.specs.declared.fault.HybridFault.{HybridFault}
use Rattle.fd_hybrid.specs.declared.fault.HybridFault.TheVariants.{Cut, BadRun, OverWidth}
use Rattle.fd_hybrid.specs.declared.runs.Before.{Before}
use Rattle.fd_hybrid.specs.declared.runs.Before.TheVariants.{Nothing, Repeated, Packed}
use Rattle.fd_hybrid.specs.Digits.{number, digits}
use Rattle.fd_hybrid.specs.Runs.{Run, repeated, packed}
use Rattle.fd_hybrid.specs.Format.{IsVarint, byte_count, group_bytes, IsRun}
use Rattle.fd_hybrid.specs.Unpacker.{◌>>=◌, Piece, capped_at, repeated_at, packed_at, groups_at, run_at, is_even, repeats, is_packed, goes_on, fits_in}
use Rattle.fd_hybrid.proofs.Headers.{most}
use Rattle.fd_hybrid.proofs.DigitNumbers.{Digits, length-digits, number-digits, number-append}
use Rattle.fd_hybrid.proofs.NextRuns.{May, Groups, Apart, values_of, after_of, fit_left}
use Rattle.fd_hybrid.proofs.GroupLaws.{take_front, drop_front, groups_ok, lt_true, lt_false, le_true, le_false}
use Rattle.fd_hybrid.proofs.GroupReads.{Room, of_room, groups_room}
use Rattle.fd_hybrid.proofs.GroupEnds.{first_read, head_of_both}
use Rattle.fd_hybrid.proofs.GroupCompletions.{pow_le}
use Rattle.fd_hybrid.proofs.HeaderLaws.{header_ok, parity, capped_of}

-- a run by its header
pub run-even : (w left m : ℕ) (before : Before) (bytes rest : List ℕ) → capped_at bytes ≡ Ok (m, rest) → is_even bytes ≡ true → run_at w left before bytes ≡ repeated_at w left before (m / 2) rest
unfolding run_at
run-even w left m before bytes rest h even =
    ap (λ r. r >>= λ header. if is_even bytes then repeated_at w left before (header.0 / 2) header.1 else packed_at w left before (header.0 / 2) header.1) h
    ∙ ap (λ b. if b then repeated_at w left before (m / 2) rest else packed_at w left before (m / 2) rest) even

pub run-odd : (w left m : ℕ) (before : Before) (bytes rest : List ℕ) → capped_at bytes ≡ Ok (m, rest) → is_even bytes ≡ false → run_at w left before bytes ≡ packed_at w left before (m / 2) rest
unfolding run_at
run-odd w left m before bytes rest h odd =
    ap (λ r. r >>= λ header. if is_even bytes then repeated_at w left before (header.0 / 2) header.1 else packed_at w left before (header.0 / 2) header.1) h
    ∙ ap (λ b. if b then repeated_at w left before (m / 2) rest else packed_at w left before (m / 2) rest) odd

-- a repeated run by its value
abbrev pub repeated_by : ℕ → ℕ → Before → ℕ → ℕ → List ℕ → Result Piece HybridFault
repeated_by w left before n value bytes =
    if nat_le (byte_count w) (length bytes) && nat_le (2 ^ w) value then Err OverWidth
    else if not (nat_le 8 n && nat_le n left) then Err BadRun
    else if nat_lt (length bytes) (byte_count w) then Err Cut
    else if repeats before value then Err BadRun
    else Ok (replicate n value, (Repeated value, drop (byte_count w) bytes))

pub repeated-by : (w left n : ℕ) (before : Before) (bytes : List ℕ) (value : ℕ) → number 8 (take (byte_count w) bytes) ≡ value → repeated_at w left before n bytes ≡ repeated_by w left before n value bytes
unfolding repeated_at
repeated-by w left n before bytes value e = ap (λ v. repeated_by w left before n v bytes) e

pub no_repeat : (before : Before) (v : ℕ) → Apart before v → repeats before v ≡ false
no_repeat Nothing v h = refl
no_repeat Packed v h = refl
no_repeat (Repeated u) v h = differ u v h
  where
    differ : (u v : ℕ) → u ≢ v → (u == v) ≡ false
    differ u v h = grind (arith, nat_tests)

pub and_false : (b : Bool) → (b && false) ≡ false
and_false true = refl
and_false false = refl

-- a value of w bits fits the bytes that hold them
in_count : (w v : ℕ) → v < 2 ^ w → v < 2 ^ (8 * byte_count w)
in_count w v lt = let le : w ≤ 8 * byte_count w = omega arith in omega (arith, pow_le w (8 * byte_count w) le)

value_back : (w v : ℕ) (more : List ℕ) → v < 2 ^ (8 * byte_count w) → number 8 (take (byte_count w) (digits 8 (byte_count w) v ++ more)) ≡ v
value_back w v more lt = ap (number 8) (take_front (byte_count w) (digits 8 (byte_count w) v) more (length-digits 8 (byte_count w) v)) ∙ number-digits 8 (byte_count w) v lt

fits_true : (n left : ℕ) → 8 ≤ n → n ≤ left → not (nat_le 8 n && nat_le n left) ≡ false
fits_true n left a b = ap (λ c. not (c && nat_le n left)) (le_true 8 n a) ∙ ap not (le_true n left b)

repeated_ok : (w left n v : ℕ) (before : Before) (more : List ℕ) → 8 ≤ n → n ≤ left → v < 2 ^ w → Apart before v
    → repeated_at w left before n (digits 8 (byte_count w) v ++ more) ≡ Ok (replicate n v, (Repeated v, more))
repeated_ok w left n v before more many within fits apart =
    let size : ℕ = byte_count w in
    let front : List ℕ = digits 8 size v in
    let bytes : List ℕ = front ++ more in
    let long : length front ≡ size = length-digits 8 size v in
    let narrow : (nat_le size (length bytes) && nat_le (2 ^ w) v) ≡ false = ap (λ b. nat_le size (length bytes) && b) (le_false (2 ^ w) v fits) ∙ and_false (nat_le size (length bytes)) in
    let whole : nat_lt (length bytes) size ≡ false = lt_false (length bytes) size (omega (arith, length-append front more, long)) in
    repeated-by w left n before bytes v (value_back w v more (in_count w v fits))
    ∙ ap (λ b. if b then Err OverWidth else if not (nat_le 8 n && nat_le n left) then Err BadRun else if nat_lt (length bytes) size then Err Cut else if repeats before v then Err BadRun else Ok (replicate n v, (Repeated v, drop size bytes))) narrow
    ∙ ap (λ b. if b then Err BadRun else if nat_lt (length bytes) size then Err Cut else if repeats before v then Err BadRun else Ok (replicate n v, (Repeated v, drop size bytes))) (fits_true n left many within)
    ∙ ap (λ b. if b then Err Cut else if repeats before v then Err BadRun else Ok (replicate n v, (Repeated v, drop size bytes))) whole
    ∙ ap (λ b. if b then Err BadRun else Ok (replicate n v, (Repeated v, drop size bytes))) (no_repeat before v apart)
    ∙ ap (λ xs. Ok (replicate n v, (Repeated v, xs))) (drop_front size front more long)

pub repeated_cut : (w left n : ℕ) (before : Before) (bytes : List ℕ) → 8 ≤ n → n ≤ left → length bytes < byte_count w → repeated_at w left before n bytes ≡ Err Cut
repeated_cut w left n before bytes many within short =
    let size : ℕ = byte_count w in
    let v : ℕ = number 8 (take size bytes) in
    repeated-by w left n before bytes v refl
    ∙ ap (λ b. if b && nat_le (2 ^ w) v then Err OverWidth else if not (nat_le 8 n && nat_le n left) then Err BadRun else if nat_lt (length bytes) size then Err Cut else if repeats before v then Err BadRun else Ok (replicate n v, (Repeated v, drop size bytes))) (le_false size (length bytes) short)
    ∙ ap (λ b. if b then Err BadRun else if nat_lt (length bytes) size then Err Cut else if repeats before v then Err BadRun else Ok (replicate n v, (Repeated v, drop size bytes))) (fits_true n left many within)
    ∙ ap (λ b. if b then Err Cut else if repeats before v then Err BadRun else Ok (replicate n v, (Repeated v, drop size bytes))) (lt_true (length bytes) size short)

pub repeated_wide : (w left n v : ℕ) (before : Before) (more : List ℕ) → 2 ^ w ≤ v → v < 2 ^ (8 * byte_count w) → repeated_at w left before n (digits 8 (byte_count w) v ++ more) ≡ Err OverWidth
repeated_wide w left n v before more wide lt =
    let size : ℕ = byte_count w in
    let front : List ℕ = digits 8 size v in
    let bytes : List ℕ = front ++ more in
    let whole : nat_le size (length bytes) ≡ true = le_true size (length bytes) (omega (arith, length-append front more, length-digits 8 size v)) in
    repeated-by w left n before bytes v (value_back w v more lt)
    ∙ ap (λ b. if b && nat_le (2 ^ w) v then Err OverWidth else if not (nat_le 8 n && nat_le n left) then Err BadRun else if nat_lt (length bytes) size then Err Cut else if repeats before v then Err BadRun else Ok (replicate n v, (Repeated v, drop size bytes))) whole
    ∙ ap (λ b. if b then Err OverWidth else if not (nat_le 8 n && nat_le n left) then Err BadRun else if nat_lt (length bytes) size then Err Cut else if repeats before v then Err BadRun else Ok (replicate n v, (Repeated v, drop size bytes))) (le_true (2 ^ w) v wide)

pub packed-by : (w left m : ℕ) (before : Before) (bytes : List ℕ) → packed_at w left before m bytes
    ≡ (if is_packed before || (m == 0) || not (fits_in m left) then Err BadRun
    else if goes_on before w bytes then Err BadRun
    else (groups_at w m left bytes >>= λ groups. Ok (groups.0, (Packed, groups.1))))
unfolding packed_at
packed-by w left m before bytes = refl

pub some_groups : (gs : List (List ℕ)) → gs ≢ [] → (length gs == 0) ≡ false
some_groups [] h = absurd (h refl)
some_groups (g ∷ gs) h = positive (length (g ∷ gs)) (omega arith)
  where
    positive : (n : ℕ) → 0 < n → (n == 0) ≡ false
    positive n h = grind (arith, nat_tests)

-- so many groups may stand here
header_fits : (m left : ℕ) (before : Before) → is_packed before ≡ false → (m == 0) ≡ false → Room m left → (is_packed before || (m == 0) || not (fits_in m left)) ≡ false
header_fits m left before start some room =
    ap (λ b. b || (m == 0) || not (fits_in m left)) start ∙ ap (λ b. b || not (fits_in m left)) some ∙ ap not (of_room m left room)

-- the first value of bytes does not depend on what follows it
first_of_more : (w : ℕ) (c t : List ℕ) → byte_count w ≤ length c → number 8 c % 2 ^ w ≡ number 8 (c ++ t) % 2 ^ w
first_of_more w c t le =
    let k : ℕ = 8 * length c - w in
    let up : 8 * length c ≡ w + k = omega arith in
    let high : ℕ = number 8 t in
    let p : 2 ^ (8 * length c) * high ≡ 2 ^ w * (2 ^ k * high) = ap (λ j. 2 ^ j * high) up ∙ ap (λ j. j * high) (pow-add 2 w k) ∙ mul_assoc (2 ^ w) (2 ^ k) high in
    sym (ap (λ n. n % 2 ^ w) (number-append 8 c t) ∙ ap (λ n. (number 8 c + n) % 2 ^ w) p ∙ add-mul-mod_self_left (number 8 c) (2 ^ w) (2 ^ k * high))

-- where the first value of groups is apart from the value before, the run may go on
pub may_go_on : (w left : ℕ) (before : Before) (gs : List (List ℕ)) (c t : List ℕ) → 0 < w → gs ≢ [] → Digits w (concat gs) → Groups left gs → Apart before (get_or (concat gs) 0 0)
    → c ++ t ≡ flat_map (group_bytes w) gs → goes_on before w c ≡ false
may_go_on w left before [] c t wide some fit stand apart e = absurd (some refl)
may_go_on w left before (g ∷ gs) c t wide some fit stand apart e =
    elim (cases_lt (length c) (byte_count w)) [
      | inl lt ↦ ap (λ b. b && repeats before (number 8 c % 2 ^ w)) (le_false (byte_count w) (length c) lt)
      | inr ge ↦
          let rest : List ℕ = flat_map (group_bytes w) gs in
          let size : 0 < length g = omega (arith, stand.1, stand.0) in
          let most8 : length g ≤ 8 = omega (arith, stand.1) in
          let first : Digits w g = fit_left w g (concat gs) (pow_pos w) fit in
          let value : number 8 c % 2 ^ w ≡ get_or (concat (g ∷ gs)) 0 0 =
          first_of_more w c t ge ∙ ap (λ xs. number 8 xs % 2 ^ w) e ∙ first_read w g rest wide most8 size first ∙ sym (head_of_both g (concat gs) size) in
          let no : repeats before (number 8 c % 2 ^ w) ≡ false = ap (repeats before) value ∙ no_repeat before (get_or (concat (g ∷ gs)) 0 0) apart in
          ap (λ b. nat_le (byte_count w) (length c) && b) no ∙ and_false (nat_le (byte_count w) (length c))
    ]

pub packed_read : (w left m : ℕ) (before : Before) (bytes : List ℕ) (r : Result (List ℕ × List ℕ) HybridFault) → is_packed before ≡ false → (m == 0) ≡ false → Room m left
    → goes_on before w bytes ≡ false → groups_at w m left bytes ≡ r → packed_at w left before m bytes ≡ (r >>= λ groups. Ok (groups.0, (Packed, groups.1)))
packed_read w left m before bytes r start some room first read =
    packed-by w left m before bytes
    ∙ ap (λ b. if b then Err BadRun else if goes_on before w bytes then Err BadRun else (groups_at w m left bytes >>= λ groups. Ok (groups.0, (Packed, groups.1)))) (header_fits m left before start some room)
    ∙ ap (λ b. if b then Err BadRun else (groups_at w m left bytes >>= λ groups. Ok (groups.0, (Packed, groups.1)))) first
    ∙ ap (λ r. r >>= λ groups. Ok (groups.0, (Packed, groups.1))) read

-- the header of a run
abbrev pub header_of : Run → ℕ
header_of (repeated n v) = 2 * n
header_of (packed gs) = 2 * length gs + 1

abbrev pub content_of : ℕ → Run → List ℕ
content_of w (repeated n v) = digits 8 (byte_count w) v
content_of w (packed gs) = flat_map (group_bytes w) gs

pub run_parts : (w : ℕ) (front : List ℕ) (run : Run) → IsRun w front run → (header : List ℕ) × IsVarint header (header_of run) × (front ≡ header ++ content_of w run)
run_parts w front (repeated n v) h = h
run_parts w front (packed gs) h = h

pub even_of : (n : ℕ) → ((2 * n) % 2 == 0) ≡ true
even_of n = ap (λ k. k == 0) (zero_rest n)
  where
    zero_rest : (n : ℕ) → (2 * n) % 2 ≡ 0
    zero_rest n = omega arith

pub odd_of : (n : ℕ) → ((2 * n + 1) % 2 == 0) ≡ false
odd_of n = ap (λ k. k == 0) (one_rest n)
  where
    one_rest : (n : ℕ) → (2 * n + 1) % 2 ≡ 1
    one_rest n = omega arith

pub half_even : (n left : ℕ) → n ≤ left → left < 2 ^ 64 → min (2 * n) most / 2 ≡ n
half_even n left le small = omega arith

pub half_odd : (n left : ℕ) → n ≤ left → left < 2 ^ 64 → min (2 * n + 1) most / 2 ≡ n
half_odd n left le small = omega arith

pub room_count : (m left : ℕ) → 0 < m → Room m left → m ≤ left
room_count m left some (inl p) = omega arith
room_count m left some (inr p) = omega arith

pub positive_groups : (gs : List (List ℕ)) → gs ≢ [] → 0 < length gs
positive_groups [] h = absurd (h refl)
positive_groups (g ∷ gs) h = omega arith

-- A run that may stand there is read, whatever follows.
pub run_ok : (w left : ℕ) (before : Before) (run : Run) (front more : List ℕ) → 0 < w → left < 2 ^ 64 → May w left before run → IsRun w front run
    → run_at w left before (front ++ more) ≡ Ok (values_of run, (after_of run, more))
run_ok w left before (repeated n v) front more wide small may (header, is, e) =
    let bytes : List ℕ = header ++ (digits 8 (byte_count w) v ++ more) in
    let same : front ++ more ≡ bytes = ap (λ xs. xs ++ more) e ∙ append_assoc header (digits 8 (byte_count w) v) more in
    let read = capped_of bytes (2 * n) (digits 8 (byte_count w) v ++ more) (header_ok header (digits 8 (byte_count w) v ++ more) (2 * n) is) in
    ap (run_at w left before) same ∙ run-even w left (min (2 * n) most) before bytes (digits 8 (byte_count w) v ++ more) read (parity header (digits 8 (byte_count w) v ++ more) (2 * n) is ∙ even_of n)
    ∙ ap (λ k. repeated_at w left before k (digits 8 (byte_count w) v ++ more)) (half_even n left may.1 small)
    ∙ repeated_ok w left n v before more may.0 may.1 may.2 may.3
run_ok w left before (packed gs) front more wide small may (header, is, e) =
    let content : List ℕ = flat_map (group_bytes w) gs in
    let m : ℕ = length gs in
    let bytes : List ℕ = header ++ (content ++ more) in
    let same : front ++ more ≡ bytes = ap (λ xs. xs ++ more) e ∙ append_assoc header content more in
    let read = capped_of bytes (2 * m + 1) (content ++ more) (header_ok header (content ++ more) (2 * m + 1) is) in
    let room : Room m left = groups_room gs left may.1 may.4 in
    let within : m ≤ left = room_count m left (positive_groups gs may.1) room in
    ap (run_at w left before) same ∙ run-odd w left (min (2 * m + 1) most) before bytes (content ++ more) read (parity header (content ++ more) (2 * m + 1) is ∙ odd_of m)
    ∙ ap (λ k. packed_at w left before k (content ++ more)) (half_odd m left within small)
    ∙ packed_read w left m before (content ++ more) (Ok (concat gs, more)) may.0 (some_groups gs may.1) room (starts gs may.1 may.2 may.4 may.3) (groups_ok w left gs more may.2 may.4)
  where
    starts : (gs : List (List ℕ)) → gs ≢ [] → Digits w (concat gs) → Groups left gs → Apart before (get_or (concat gs) 0 0) → goes_on before w (flat_map (group_bytes w) gs ++ more) ≡ false
    starts [] some fit stand apart = absurd (some refl)
    starts (g ∷ gs) some fit stand apart =
        let rest : List ℕ = flat_map (group_bytes w) gs ++ more in
        let size : 0 < length g = omega (arith, stand.1, stand.0) in
        let most8 : length g ≤ 8 = omega (arith, stand.1) in
        let first : Digits w g = fit_left w g (concat gs) (pow_pos w) fit in
        let all : List ℕ = flat_map (group_bytes w) (g ∷ gs) ++ more in
        let value : number 8 all % 2 ^ w ≡ get_or (concat (g ∷ gs)) 0 0 =
        ap (λ xs. number 8 xs % 2 ^ w) (append_assoc (group_bytes w g) (flat_map (group_bytes w) gs) more) ∙ first_read w g rest wide most8 size first ∙ sym (head_of_both g (concat gs) size) in
        let no : repeats before (number 8 all % 2 ^ w) ≡ false = ap (repeats before) value ∙ no_repeat before (get_or (concat (g ∷ gs)) 0 0) apart in
        ap (λ b. nat_le (byte_count w) (length all) && b) no ∙ and_false (nat_le (byte_count w) (length all))
