-- What was read as a run is one, and what ends inside of a run can be completed.
use Rattle.std.proofs.Common.{◌≡◌, ◌≢◌, ℕ, zero, suc, ◌+◌, ◌-◌, ◌*◌, ◌/◌, ◌%◌, ◌^◌, ◌<◌, ◌≤◌, min, Bool, true, false, not, ◌&&◌, ◌||◌, ◌⊎◌, inl, inr, List, [], ◌∷◌, ◌++◌, length, get_or, take, drop, replicate, Result, Ok, Err, nat_lt, nat_le, ◌==◌, if◌then◌else◌, refl, sym, ap, ◌∙◌, subst, append_assoc, length-append, arith}
use Rattle.std.specs.List.{concat, flat_map, list_all}
use Rattle.std.proofs.lemmas.List.{length-drop}
use Rattle.std.proofs.lemmas.Bool.Decides.{nat_tests}
use Rattle.std.proofs.lemmas.Nat.{pow_pos, pow-add}
use Rattle.fd_hybrid.specs.declared.fault.HybridFault.{HybridFault}
use Rattle.fd_hybrid.specs.declared.fault.HybridFault.TheVariants.{Cut, BadRun, OverWidth}
use Rattle.fd_hybrid.specs.declared.runs.Before.{Before}
use Rattle.fd_hybrid.specs.declared.runs.Before.TheVariants.{Repeated, Packed}
use Rattle.fd_hybrid.specs.Digits.{number, digits}
use Rattle.fd_hybrid.specs.Runs.{Run, repeated, packed, equal_next}
use Rattle.fd_hybrid.specs.Format.{IsVarint, byte_count, group_bytes, IsRun}
use Rattle.fd_hybrid.specs.Refusals.{IsTooWide}
use Rattle.fd_hybrid.specs.Unpacker.{◌>>=◌, Piece, capped_at, repeated_at, packed_at, group_at, groups_at, run_at, is_even, repeats, is_packed, goes_on, fits_in}
use Rattle.fd_hybrid.proofs.Headers.{most}
use Rattle.fd_hybrid.proofs.DigitLaws.{number_below, fit_front}
use Rattle.fd_hybrid.proofs.DigitNumbers.{Digits, length-digits, digits-number_all, first_digits}
use Rattle.fd_hybrid.proofs.Loops.{ok_is, in_turn, groups-none, groups-more}
use Rattle.fd_hybrid.proofs.NextRuns.{May, Groups, Apart, values_of, after_of, fit_left, fit_right}
use Rattle.fd_hybrid.proofs.GroupLaws.{IsBytes, joins, length-take_within, le_true, below_bits, group_by, group-by}
use Rattle.fd_hybrid.proofs.GroupReads.{chosen, not_ok, was_ok, lt_of, ge_of, le_of, gt_of, was_false, Room, room_of, groups_found, GroupsRead}
use Rattle.fd_hybrid.proofs.GroupEnds.{first_read, apart_of, apart_first, err_is, count_within, head_of_both, groups_completed, GroupsCompleted}
use Rattle.fd_hybrid.proofs.GroupCompletions.{pow_le, apart_or, repeated_is}
use Rattle.fd_hybrid.proofs.HeaderLaws.{HeaderRead, header_found, header_refused, parity, capped_found, capped_refused}
use Rattle.fd_hybrid.proofs.OneRun.{run-even, run-odd, repeated_by, repeated-by, packed-by, room_count}
use Rattle.fd_hybrid.proofs.RunEnds.{even_cut, none_there}

pub unread : (w left : ℕ) (before : Before) (bytes : List ℕ) (e : HybridFault) → capped_at bytes ≡ Err e → run_at w left before bytes ≡ Err e
unfolding run_at
unread w left before bytes e h =
    ap (λ r. r >>= λ header. if is_even bytes then repeated_at w left before (header.0 / 2) header.1 else packed_at w left before (header.0 / 2) header.1) h

-- the header of a run that was read, and its kind
record Begun (bytes : List ℕ) (m : ℕ) (rest : List ℕ) : Type 0 where
  number : ℕ
  capped : m ≡ min number most
  header : List ℕ
  is : IsVarint header number
  ends : (bytes ≡ header ++ rest) ⊎ ((rest ≡ []) × (bytes ++ 1 ∷ [] ≡ header))
  kind : is_even bytes ≡ (number % 2 == 0)

begun_of : (bytes : List ℕ) (x : ℕ × List ℕ) → IsBytes bytes → bytes ≢ [] → capped_at bytes ≡ Ok x → Begun bytes x.0 x.1
begun_of bytes x fit some h =
    let c = capped_found bytes x h in
    let r : HeaderRead bytes c.0 x.1 = header_found bytes (c.0, x.1) fit some c.1 in
    record { number = c.0; capped = c.2; header = r.header; is = r.is; ends = r.ends; kind = kind c.0 r.header r.is r.ends }
  where
    kind : (n : ℕ) (header : List ℕ) → IsVarint header n → (bytes ≡ header ++ x.1) ⊎ ((x.1 ≡ []) × (bytes ++ 1 ∷ [] ≡ header)) → is_even bytes ≡ (n % 2 == 0)
    kind n header is (inl e) = ap is_even e ∙ parity header x.1 n is
    kind n header is (inr e) = even_cut bytes (1 ∷ []) header n some (sym e.1) is

was_even : (n : ℕ) → (n % 2 == 0) ≡ true → 2 * (n / 2) ≡ n
was_even n h = let e : n % 2 ≡ 0 = zero_of (n % 2) h in omega arith
  where
    zero_of : (k : ℕ) → (k == 0) ≡ true → k ≡ 0
    zero_of k h = grind (arith, nat_tests)

was_odd : (n : ℕ) → (n % 2 == 0) ≡ false → 2 * (n / 2) + 1 ≡ n
was_odd n h = let e : 0 < n % 2 = some_of (n % 2) h in omega arith
  where
    some_of : (k : ℕ) → (k == 0) ≡ false → 0 < k
    some_of k h = grind (arith, nat_tests)

-- a number that was not capped
uncapped : (m n k left : ℕ) → m ≡ min n most → k ≤ left → left < 2 ^ 64 → k ≡ m / 2 → n / 2 ≡ k
uncapped m n k left e le small is = omega arith

both_true : (a b : Bool) → (a && b) ≡ true → (a ≡ true) × (b ≡ true)
both_true true true h = (refl, refl)
both_true true false h = cc
both_true false b h = cc

-- what was found of a repeated run
record RepeatedRead (w left n : ℕ) (before : Before) (bytes : List ℕ) (x : Piece) : Type 0 where
  value : ℕ
  many : 8 ≤ n
  within : n ≤ left
  fits : value < 2 ^ w
  apart : Apart before value
  some : byte_count w ≤ length bytes
  values : x.0 ≡ replicate n value
  after : x.1.0 ≡ Repeated value
  spelled : bytes ≡ digits 8 (byte_count w) value ++ x.1.1

value_spelled : (size : ℕ) (bytes : List ℕ) → IsBytes bytes → size ≤ length bytes → digits 8 size (number 8 (take size bytes)) ≡ take size bytes
value_spelled size bytes fit le = digits-number_all 8 size (take size bytes) (fit_front 256 size bytes (omega arith) fit) (length-take_within size bytes le)

repeated_found : (w left n : ℕ) (before : Before) (bytes : List ℕ) (x : Piece) → IsBytes bytes → repeated_at w left before n bytes ≡ Ok x → RepeatedRead w left n before bytes x
repeated_found w left n before bytes x fit h =
    let size : ℕ = byte_count w in
    let v : ℕ = number 8 (take size bytes) in
    let read : repeated_by w left before n v bytes ≡ Ok x = sym (repeated-by w left n before bytes v refl) ∙ h in
    elim (chosen (nat_le size (length bytes) && nat_le (2 ^ w) v) _ _ _ read) [
      | inl p ↦ absurd (not_ok OverWidth x p.1)
      | inr p ↦ elim (chosen (not (nat_le 8 n && nat_le n left)) _ _ _ p.1) [
        | inl q ↦ absurd (not_ok BadRun x q.1)
        | inr q ↦ elim (chosen (nat_lt (length bytes) size) _ _ _ q.1) [
          | inl s ↦ absurd (not_ok Cut x s.1)
          | inr s ↦ elim (chosen (repeats before v) _ _ _ s.1) [
            | inl t ↦ absurd (not_ok BadRun x t.1)
            | inr t ↦
                let le : size ≤ length bytes = ge_of (length bytes) size s.0 in
                let b = both_true (nat_le 8 n) (nat_le n left) (was_false (nat_le 8 n && nat_le n left) q.0) in
                let narrow : nat_le (2 ^ w) v ≡ false = ap (λ c. c && nat_le (2 ^ w) v) (sym (le_true size (length bytes) le)) ∙ p.0 in
                let e : (replicate n v, (Repeated v, drop size bytes)) ≡ x = ok_is (replicate n v, (Repeated v, drop size bytes)) x t.1 in
                record {
                  value = v;
                  many = le_of 8 n b.0;
                  within = le_of n left b.1;
                  fits = gt_of (2 ^ w) v narrow;
                  apart = apart_of before v t.0;
                  some = le;
                  values = sym (ap (λ (p : Piece). p.0) e);
                  after = sym (ap (λ (p : Piece). p.1.0) e);
                  spelled = sym (joins size bytes) ∙ ap (λ xs. xs ++ drop size bytes) (sym (value_spelled size bytes fit le)) ∙ ap (λ (p : Piece). digits 8 size v ++ p.1.1) e;
                }
          ]
        ]
      ]
    ]

-- what was found of a packed run's header
record PackedBegun (w left m : ℕ) (before : Before) (bytes : List ℕ) (r : Result Piece HybridFault) : Type 0 where
  start : is_packed before ≡ false
  some : 0 < m
  room : Room m left
  first : goes_on before w bytes ≡ false
  read : (groups_at w m left bytes >>= λ groups. Ok (groups.0, (Packed, groups.1))) ≡ r

or_false : (a b c : Bool) → (a || b || c) ≡ false → (a ≡ false) × (b ≡ false) × (c ≡ false)
or_false false false false h = (refl, refl, refl)
or_false true b c h = cc
or_false false true c h = cc
or_false false false true h = cc

some_of_test : (m : ℕ) → (m == 0) ≡ false → 0 < m
some_of_test m h = grind (arith, nat_tests)

packed_begun : (w left m : ℕ) (before : Before) (bytes : List ℕ) (r : Result Piece HybridFault) → (r ≡ Err BadRun → ⊥) → packed_at w left before m bytes ≡ r → PackedBegun w left m before bytes r
packed_begun w left m before bytes r good h =
    elim (chosen (is_packed before || (m == 0) || not (fits_in m left)) _ _ _ (sym (packed-by w left m before bytes) ∙ h)) [
      | inl p ↦ absurd (good (sym p.1))
      | inr p ↦ elim (chosen (goes_on before w bytes) _ _ _ p.1) [
        | inl q ↦ absurd (good (sym q.1))
        | inr q ↦
            let t = or_false (is_packed before) (m == 0) (not (fits_in m left)) p.0 in
            record { start = t.0; some = some_of_test m t.1; room = room_of m left (was_false (fits_in m left) t.2); first = q.0; read = q.1 }
      ]
    ]

-- a run that was read
pub record RunRead (w left : ℕ) (before : Before) (bytes : List ℕ) (x : Piece) : Type 0 where
  pub run : Run
  pub front : List ℕ
  pub is : IsRun w front run
  pub may : May w left before run
  pub values : x.0 ≡ values_of run
  pub after : x.1.0 ≡ after_of run
  pub spelled : bytes ≡ front ++ x.1.1

-- where bytes are there behind it, the header that was read was whole
whole_header : (bytes header rest : List ℕ) → 0 < length rest → (bytes ≡ header ++ rest) ⊎ ((rest ≡ []) × (bytes ++ 1 ∷ [] ≡ header)) → bytes ≡ header ++ rest
whole_header bytes header rest some (inl e) = e
whole_header bytes header rest some (inr e) = let none : length rest ≡ 0 = ap length e.0 in absurd (omega arith)

fit_rest : (bytes header rest : List ℕ) → IsBytes bytes → (bytes ≡ header ++ rest) ⊎ ((rest ≡ []) × (bytes ++ 1 ∷ [] ≡ header)) → IsBytes rest
fit_rest bytes header rest fit (inl e) i = fit_right 8 header rest (subst (λ (xs : List ℕ). IsBytes xs) e fit) i
fit_rest bytes header rest fit (inr e) i = subst (λ (xs : List ℕ). get_or xs i 0 < 256) (sym e.0) (omega arith)

to_groups : (w left m : ℕ) (bytes : List ℕ) (x : Piece) → (groups_at w m left bytes >>= λ groups. Ok (groups.0, (Packed, groups.1))) ≡ Ok x
    → (g : List ℕ × List ℕ) × (groups_at w m left bytes ≡ Ok g) × (g.0 ≡ x.0) × (Packed ≡ x.1.0) × (g.1 ≡ x.1.1)
to_groups w left m bytes x h = go (groups_at w m left bytes) refl h
  where
    go : (r : Result (List ℕ × List ℕ) HybridFault) → groups_at w m left bytes ≡ r → ◌>>=◌ {B = Piece} r (λ groups. Ok (groups.0, (Packed, groups.1))) ≡ Ok x
        → (g : List ℕ × List ℕ) × (groups_at w m left bytes ≡ Ok g) × (g.0 ≡ x.0) × (Packed ≡ x.1.0) × (g.1 ≡ x.1.1)
    go (Err e) read h = absurd (not_ok e x h)
    go (Ok g) read h =
        let e : (g.0, (Packed, g.1)) ≡ x = ok_is (g.0, (Packed, g.1)) x h in
        (g, read, ap (λ (p : Piece). p.0) e, ap (λ (p : Piece). p.1.0) e, ap (λ (p : Piece). p.1.1) e)

to_refusal : (w left m : ℕ) (bytes : List ℕ) (e : HybridFault) → ◌>>=◌ {B = Piece} (groups_at w m left bytes) (λ groups. Ok (groups.0, (Packed, groups.1))) ≡ Err e → groups_at w m left bytes ≡ Err e
to_refusal w left m bytes e h = go (groups_at w m left bytes) refl h
  where
    go : (r : Result (List ℕ × List ℕ) HybridFault) → groups_at w m left bytes ≡ r → ◌>>=◌ {B = Piece} r (λ groups. Ok (groups.0, (Packed, groups.1))) ≡ Err e → groups_at w m left bytes ≡ Err e
    go (Ok g) read h = absurd (was_ok e (g.0, (Packed, g.1)) h)
    go (Err d) read h = read ∙ ap (λ (x : HybridFault). Err x) (err_is d e h)

not_nil : (gs : List (List ℕ)) → 0 < length gs → gs ≢ []
not_nil [] some = absurd (omega arith)
not_nil (g ∷ gs) some = λ e. cc

some_left : (w m left : ℕ) (rest : List ℕ) (g : List ℕ × List ℕ) → 0 < w → 0 < m → groups_at w m left rest ≡ Ok g → Room m left → 0 < length rest
some_left w m left [] g wide some h room = absurd (not_ok Cut g (sym (none_there w left m wide some room) ∙ h))
some_left w m left (b ∷ bs) g wide some h room = omega arith

pub run_found : (w left : ℕ) (before : Before) (bytes : List ℕ) (x : Piece) → 0 < w → left < 2 ^ 64 → IsBytes bytes → bytes ≢ [] → run_at w left before bytes ≡ Ok x → RunRead w left before bytes x
run_found w left before bytes x wide small fit some h = header (capped_at bytes) refl
  where
    even : (m : ℕ) (rest : List ℕ) → Begun bytes m rest → repeated_at w left before (m / 2) rest ≡ Ok x → is_even bytes ≡ true → RunRead w left before bytes x
    even m rest b read kind =
        let n : ℕ = m / 2 in
        let rest_fit : IsBytes rest = fit_rest bytes b.header rest fit b.ends in
        let r : RepeatedRead w left n before rest x = repeated_found w left n before rest x rest_fit read in
        let all : bytes ≡ b.header ++ rest = whole_header bytes b.header rest (omega (arith, r.some)) b.ends in
        let half : b.number / 2 ≡ n = uncapped m b.number n left b.capped r.within small refl in
        let double : b.number ≡ 2 * n = sym (was_even b.number (sym b.kind ∙ kind)) ∙ ap (λ k. 2 * k) half in
        record {
          run = repeated n r.value;
          front = b.header ++ digits 8 (byte_count w) r.value;
          is = (b.header, subst (λ (k : ℕ). IsVarint b.header k) double b.is, refl);
          may = (r.many, r.within, r.fits, r.apart);
          values = r.values;
          after = r.after;
          spelled = all ∙ ap (λ xs. b.header ++ xs) r.spelled ∙ sym (append_assoc b.header (digits 8 (byte_count w) r.value) x.1.1);
        }

    odd : (m : ℕ) (rest : List ℕ) → Begun bytes m rest → packed_at w left before (m / 2) rest ≡ Ok x → is_even bytes ≡ false → RunRead w left before bytes x
    odd m rest b read kind =
        let n : ℕ = m / 2 in
        let p = packed_begun w left n before rest (Ok x) (λ e. absurd (was_ok BadRun x e)) read in
        let g = to_groups w left n rest x p.read in
        let rest_fit : IsBytes rest = fit_rest bytes b.header rest fit b.ends in
        let r : GroupsRead w n left rest g.0.0 g.0.1 = groups_found w n left rest g.0 rest_fit p.room g.1 in
        let all : bytes ≡ b.header ++ rest = whole_header bytes b.header rest (some_left w n left rest g.0 wide p.some g.1 p.room) b.ends in
        let within : n ≤ left = room_count n left p.some p.room in
        let half : b.number / 2 ≡ n = uncapped m b.number n left b.capped within small refl in
        let double : b.number ≡ 2 * length r.groups + 1 = sym (was_odd b.number (sym b.kind ∙ kind)) ∙ ap (λ k. 2 * k + 1) (half ∙ sym r.count) in
        let content : List ℕ = flat_map (group_bytes w) r.groups in
        record {
          run = packed r.groups;
          front = b.header ++ content;
          is = (b.header, subst (λ (k : ℕ). IsVarint b.header k) double b.is, refl);
          may = (p.start, not_nil r.groups (omega (arith, p.some, r.count)), r.fit, head_apart r.groups (omega (arith, p.some, r.count)) r.fit r.stand g.0.1 r.spelled p.first, r.stand);
          values = sym g.2 ∙ r.are;
          after = sym g.3;
          spelled = all ∙ ap (λ xs. b.header ++ xs) r.spelled ∙ sym (append_assoc b.header content g.0.1) ∙ ap (λ xs. (b.header ++ content) ++ xs) g.4;
        }
      where
        head_apart : (gs : List (List ℕ)) → 0 < length gs → Digits w (concat gs) → Groups left gs → (after : List ℕ) → rest ≡ flat_map (group_bytes w) gs ++ after → goes_on before w rest ≡ false → Apart before (get_or (concat gs) 0 0)
        head_apart [] some f stand after e first = absurd (omega arith)
        head_apart (g ∷ gs) some f stand after e first =
            let others : List ℕ = flat_map (group_bytes w) gs ++ after in
            let size : 0 < length g = omega (arith, stand.1, stand.0) in
            let most8 : length g ≤ 8 = omega (arith, stand.1) in
            let one : Digits w g = fit_left w g (concat gs) (pow_pos w) f in
            let same : rest ≡ group_bytes w g ++ others = e ∙ append_assoc (group_bytes w g) (flat_map (group_bytes w) gs) after in
            let long : byte_count w ≤ length rest = omega (arith, ap length same, length-append (group_bytes w g) others, length-digits 8 w (number w g), count_within w wide) in
            let value : number 8 rest % 2 ^ w ≡ get_or (concat (g ∷ gs)) 0 0 = ap (λ xs. number 8 xs % 2 ^ w) same ∙ first_read w g others wide most8 size one ∙ sym (head_of_both g (concat gs) size) in
            apart_first w before rest (get_or (concat (g ∷ gs)) 0 0) long value first

    header : (r : Result (ℕ × List ℕ) HybridFault) → capped_at bytes ≡ r → RunRead w left before bytes x
    header (Err e) read = absurd (not_ok e x (sym (unread w left before bytes e read) ∙ h))
    header (Ok y) read = kind (is_even bytes) refl
      where
        b : Begun bytes y.0 y.1
        b = begun_of bytes y fit some read

        kind : (t : Bool) → is_even bytes ≡ t → RunRead w left before bytes x
        kind true e = even y.0 y.1 b (sym (run-even w left y.0 before bytes y.1 read e) ∙ h) e
        kind false e = odd y.0 y.1 b (sym (run-odd w left y.0 before bytes y.1 read e) ∙ h) e

-- a run that the bytes begin and do not end
pub record RunCompleted (w left : ℕ) (before : Before) (bytes : List ℕ) : Type 0 where
  pub run : Run
  pub more : List ℕ
  pub some : more ≢ []
  pub is : IsRun w (bytes ++ more) run
  pub may : May w left before run

-- a value that the bytes begin and do not end
record ValueCompleted (w : ℕ) (before : Before) (bytes : List ℕ) : Type 0 where
  value : ℕ
  more : List ℕ
  some : more ≢ []
  fits : value < 2 ^ w
  apart : Apart before value
  spelled : bytes ++ more ≡ digits 8 (byte_count w) value

value_by : (w n high : ℕ) (before : Before) (bytes : List ℕ) → IsBytes bytes → length bytes < byte_count w → n ≡ number 8 bytes + 2 ^ (8 * length bytes) * high
    → n < 2 ^ w → Apart before n → ValueCompleted w before bytes
value_by w n high before bytes fit short is fits apart =
    let size : ℕ = byte_count w in
    let j : ℕ = length bytes in
    let within : j ≤ size = omega arith in
    let front : take j (digits 8 size n) ≡ bytes = ap (λ m. take j (digits 8 size m)) is ∙ first_digits 8 j size (number 8 bytes) high within ∙ digits-number_all 8 j bytes fit refl in
    let more : List ℕ = drop j (digits 8 size n) in
    let left : 0 < length more = omega (arith, length-drop j (digits 8 size n), length-digits 8 size n) in
    record {
      value = n;
      more = more;
      some = λ e. let none : length more ≡ 0 = ap length e in absurd (omega arith);
      fits = fits;
      apart = apart;
      spelled = ap (λ xs. xs ++ more) (sym front) ∙ joins j (digits 8 size n);
    }

value_completed : (w : ℕ) (before : Before) (bytes : List ℕ) → 0 < w → IsBytes bytes → length bytes < byte_count w → ValueCompleted w before bytes
value_completed w before bytes wide fit short =
    let n : ℕ = number 8 bytes in
    let j : ℕ = length bytes in
    let small : n < 2 ^ (8 * j) = number_below 8 bytes fit in
    let twice : 2 ^ (8 * j + 1) ≡ 2 ^ (8 * j) * 2 = pow-add 2 (8 * j) 1 in
    let bits : 8 * j + 1 ≤ w = omega arith in
    let room : 2 ^ (8 * j + 1) ≤ 2 ^ w = pow_le (8 * j + 1) w bits in
    let fits : n < 2 ^ w = omega arith in
    elim (apart_or before n) [
      | inl apart ↦ let is : n ≡ n + 2 ^ (8 * j) * 0 = omega arith in value_by w n 0 before bytes fit short is fits apart
      | inr same ↦
          let m : ℕ = n + 2 ^ (8 * j) * 1 in
          let m_fits : m < 2 ^ w = omega arith in
          let some : 0 < 2 ^ (8 * j) = pow_pos (8 * j) in
          let differ : n ≢ m = λ e. absurd (omega arith) in
          value_by w m 1 before bytes fit short refl m_fits (repeated_is before n m same differ)
    ]

-- what is cut in a repeated run
record RepeatedCut (w left n : ℕ) (bytes : List ℕ) : Type 0 where
  many : 8 ≤ n
  within : n ≤ left
  short : length bytes < byte_count w

repeated_ends : (w left n : ℕ) (before : Before) (bytes : List ℕ) → repeated_at w left before n bytes ≡ Err Cut → RepeatedCut w left n bytes
repeated_ends w left n before bytes h =
    let size : ℕ = byte_count w in
    let v : ℕ = number 8 (take size bytes) in
    let read : repeated_by w left before n v bytes ≡ Err Cut = sym (repeated-by w left n before bytes v refl) ∙ h in
    elim (chosen (nat_le size (length bytes) && nat_le (2 ^ w) v) _ _ _ read) [
      | inl p ↦ let e : OverWidth ≡ Cut = err_is OverWidth Cut p.1 in cc
      | inr p ↦ elim (chosen (not (nat_le 8 n && nat_le n left)) _ _ _ p.1) [
        | inl q ↦ let e : BadRun ≡ Cut = err_is BadRun Cut q.1 in cc
        | inr q ↦ elim (chosen (nat_lt (length bytes) size) _ _ _ q.1) [
          | inl s ↦
              let b = both_true (nat_le 8 n) (nat_le n left) (was_false (nat_le 8 n && nat_le n left) q.0) in
              record { many = le_of 8 n b.0; within = le_of n left b.1; short = lt_of (length bytes) size s.0 }
          | inr s ↦ elim (chosen (repeats before v) _ _ _ s.1) [
            | inl t ↦ let e : BadRun ≡ Cut = err_is BadRun Cut t.1 in cc
            | inr t ↦ absurd (was_ok Cut (replicate n v, (Repeated v, drop size bytes)) t.1)
          ]
        ]
      ]
    ]

-- the bytes that end a run whose header was read
record Ends (bytes content : List ℕ) (header : List ℕ) : Type 0 where
  more : List ℕ
  some : more ≢ []
  spelled : bytes ++ more ≡ header ++ content

ends_of : (bytes header rest t content : List ℕ) → (bytes ≡ header ++ rest) ⊎ ((rest ≡ []) × (bytes ++ 1 ∷ [] ≡ header)) → t ≢ [] → rest ++ t ≡ content → Ends bytes content header
ends_of bytes header rest t content (inl e) some is = record { more = t; some = some; spelled = ap (λ xs. xs ++ t) e ∙ append_assoc header rest t ∙ ap (λ xs. header ++ xs) is }
ends_of bytes header rest t content (inr e) some is =
    let same : t ≡ content = ap (λ xs. xs ++ t) (sym e.0) ∙ is in
    record {
      more = 1 ∷ t;
      some = λ h. cc;
      spelled = sym (append_assoc bytes (1 ∷ []) t) ∙ ap (λ xs. xs ++ t) e.1 ∙ ap (λ xs. header ++ xs) same;
    }

pub run_completed : (w left : ℕ) (before : Before) (bytes : List ℕ) → 0 < w → left < 2 ^ 64 → IsBytes bytes → bytes ≢ [] → run_at w left before bytes ≡ Err Cut → RunCompleted w left before bytes
run_completed w left before bytes wide small fit some h = header (capped_at bytes) refl
  where
    even : (m : ℕ) (rest : List ℕ) → Begun bytes m rest → repeated_at w left before (m / 2) rest ≡ Err Cut → is_even bytes ≡ true → RunCompleted w left before bytes
    even m rest b read kind =
        let n : ℕ = m / 2 in
        let rest_fit : IsBytes rest = fit_rest bytes b.header rest fit b.ends in
        let c = repeated_ends w left n before rest read in
        let v = value_completed w before rest wide rest_fit c.short in
        let half : b.number / 2 ≡ n = uncapped m b.number n left b.capped c.within small refl in
        let double : b.number ≡ 2 * n = sym (was_even b.number (sym b.kind ∙ kind)) ∙ ap (λ k. 2 * k) half in
        let e = ends_of bytes b.header rest v.more (digits 8 (byte_count w) v.value) b.ends v.some v.spelled in
        record {
          run = repeated n v.value;
          more = e.more;
          some = e.some;
          is = (b.header, subst (λ (k : ℕ). IsVarint b.header k) double b.is, e.spelled);
          may = (c.many, c.within, v.fits, v.apart);
        }

    odd : (m : ℕ) (rest : List ℕ) → Begun bytes m rest → packed_at w left before (m / 2) rest ≡ Err Cut → is_even bytes ≡ false → RunCompleted w left before bytes
    odd m rest b read kind =
        let n : ℕ = m / 2 in
        let p = packed_begun w left n before rest (Err Cut) (λ e. let d : Cut ≡ BadRun = err_is Cut BadRun e in cc) read in
        let rest_fit : IsBytes rest = fit_rest bytes b.header rest fit b.ends in
        let r : GroupsCompleted w n left before rest = groups_completed w n left before rest wide rest_fit p.room p.first (to_refusal w left n rest Cut p.read) in
        let within : n ≤ left = room_count n left p.some p.room in
        let half : b.number / 2 ≡ n = uncapped m b.number n left b.capped within small refl in
        let double : b.number ≡ 2 * length r.groups + 1 = sym (was_odd b.number (sym b.kind ∙ kind)) ∙ ap (λ k. 2 * k + 1) (half ∙ sym r.count) in
        let e = ends_of bytes b.header rest r.more (flat_map (group_bytes w) r.groups) b.ends r.some r.spelled in
        record {
          run = packed r.groups;
          more = e.more;
          some = e.some;
          is = (b.header, subst (λ (k : ℕ). IsVarint b.header k) double b.is, e.spelled);
          may = (p.start, not_nil r.groups (omega (arith, p.some, r.count)), r.fit, r.apart, r.stand);
        }

    header : (r : Result (ℕ × List ℕ) HybridFault) → capped_at bytes ≡ r → RunCompleted w left before bytes
    header (Err e) read =
        let bad : e ≡ BadRun = header_refused bytes e (capped_refused bytes e read) in
        let cut : e ≡ Cut = err_is e Cut (sym (unread w left before bytes e read) ∙ h) in
        cc
    header (Ok y) read = kind (is_even bytes) refl
      where
        b : Begun bytes y.0 y.1
        b = begun_of bytes y fit some read

        kind : (t : Bool) → is_even bytes ≡ t → RunCompleted w left before bytes
        kind true e = even y.0 y.1 b (sym (run-even w left y.0 before bytes y.1 read e) ∙ h) e
        kind false e = odd y.0 y.1 b (sym (run-odd w left y.0 before bytes y.1 read e) ∙ h) e

group_refuses : (w left : ℕ) (bytes : List ℕ) (e : HybridFault) → group_at w left bytes ≡ Err e → (e ≡ BadRun) ⊎ (e ≡ Cut)
group_refuses w left bytes e h =
    let n : ℕ = number 8 (take w bytes) in
    let r : ℕ = min left 8 in
    let ds : List ℕ = digits w 8 n in
    let read : group_by w r n bytes ≡ Err e = sym (group-by w left n bytes refl) ∙ h in
    elim (chosen (not (list_all (λ v. v == 0) (drop r ds))) _ _ _ read) [
      | inl p ↦ inl (sym (err_is BadRun e p.1))
      | inr p ↦ elim (chosen (nat_lt (length bytes) w) _ _ _ p.1) [
        | inl q ↦ inr (sym (err_is Cut e q.1))
        | inr q ↦ elim (chosen (nat_le 8 (equal_next (take r ds))) _ _ _ q.1) [
          | inl s ↦ inl (sym (err_is BadRun e s.1))
          | inr s ↦ absurd (was_ok e (take r ds, drop w bytes) s.1)
        ]
      ]
    ]

-- groups have no value that is too wide
groups_refuse : (w m left : ℕ) (bytes : List ℕ) (e : HybridFault) → groups_at w m left bytes ≡ Err e → (e ≡ BadRun) ⊎ (e ≡ Cut)
groups_refuse w zero left bytes e h = absurd (was_ok e ([], bytes) (sym (groups-none w left bytes) ∙ h))
groups_refuse w (suc m) left bytes e h = step (group_at w left bytes) refl (sym (groups-more w m left bytes) ∙ h) (groups_refuse w m (left - 8))
  where
    step : (r : Result (List ℕ × List ℕ) HybridFault) → group_at w left bytes ≡ r → in_turn r (groups_at w m (left - 8)) ≡ Err e
        → ((bytes : List ℕ) (e : HybridFault) → groups_at w m (left - 8) bytes ≡ Err e → (e ≡ BadRun) ⊎ (e ≡ Cut)) → (e ≡ BadRun) ⊎ (e ≡ Cut)
    step (Err d) read h rest = group_refuses w left bytes e (read ∙ ap (λ (x : HybridFault). Err x) (err_is d e h))
    step (Ok g) read h rest = others (groups_at w m (left - 8) g.1) refl h
      where
        others : (r : Result (List ℕ × List ℕ) HybridFault) → groups_at w m (left - 8) g.1 ≡ r → ◌>>=◌ {B = List ℕ × List ℕ} r (λ y. Ok (g.0 ++ y.0, y.1)) ≡ Err e → (e ≡ BadRun) ⊎ (e ≡ Cut)
        others (Ok y) r h = absurd (was_ok e (g.0 ++ y.0, y.1) h)
        others (Err d) r h = rest g.1 e (r ∙ ap (λ (x : HybridFault). Err x) (err_is d e h))

-- a value that is too wide
pub record Over (w : ℕ) (bytes : List ℕ) : Type 0 where
  pub run : List ℕ
  pub more : List ℕ
  pub is : IsTooWide w run
  pub spelled : bytes ≡ run ++ more

record WideFound (w : ℕ) (bytes : List ℕ) : Type 0 where
  some : byte_count w ≤ length bytes
  wide : 2 ^ w ≤ number 8 (take (byte_count w) bytes)

wide_found : (w left n : ℕ) (before : Before) (bytes : List ℕ) → repeated_at w left before n bytes ≡ Err OverWidth → WideFound w bytes
wide_found w left n before bytes h =
    let size : ℕ = byte_count w in
    let v : ℕ = number 8 (take size bytes) in
    let read : repeated_by w left before n v bytes ≡ Err OverWidth = sym (repeated-by w left n before bytes v refl) ∙ h in
    elim (chosen (nat_le size (length bytes) && nat_le (2 ^ w) v) _ _ _ read) [
      | inl p ↦
          let b = both_true (nat_le size (length bytes)) (nat_le (2 ^ w) v) p.0 in
          record { some = le_of size (length bytes) b.0; wide = le_of (2 ^ w) v b.1 }
      | inr p ↦ elim (chosen (not (nat_le 8 n && nat_le n left)) _ _ _ p.1) [
        | inl q ↦ let e : BadRun ≡ OverWidth = err_is BadRun OverWidth q.1 in cc
        | inr q ↦ elim (chosen (nat_lt (length bytes) size) _ _ _ q.1) [
          | inl s ↦ let e : Cut ≡ OverWidth = err_is Cut OverWidth s.1 in cc
          | inr s ↦ elim (chosen (repeats before v) _ _ _ s.1) [
            | inl t ↦ let e : BadRun ≡ OverWidth = err_is BadRun OverWidth t.1 in cc
            | inr t ↦ absurd (was_ok OverWidth (replicate n v, (Repeated v, drop size bytes)) t.1)
          ]
        ]
      ]
    ]

pub run_over : (w left : ℕ) (before : Before) (bytes : List ℕ) → 0 < w → IsBytes bytes → bytes ≢ [] → run_at w left before bytes ≡ Err OverWidth → Over w bytes
run_over w left before bytes wide fit some h = header (capped_at bytes) refl
  where
    even : (m : ℕ) (rest : List ℕ) → Begun bytes m rest → repeated_at w left before (m / 2) rest ≡ Err OverWidth → is_even bytes ≡ true → Over w bytes
    even m rest b read kind =
        let size : ℕ = byte_count w in
        let v : ℕ = number 8 (take size rest) in
        let rest_fit : IsBytes rest = fit_rest bytes b.header rest fit b.ends in
        let f = wide_found w left (m / 2) before rest read in
        let count : 0 < size = omega arith in
        let all : bytes ≡ b.header ++ rest = whole_header bytes b.header rest (omega (arith, f.some)) b.ends in
        let double : b.number ≡ 2 * (b.number / 2) = sym (was_even b.number (sym b.kind ∙ kind)) in
        let below : v < 2 ^ (8 * size) = below_bits 8 size (take size rest) (fit_front 256 size rest (omega arith) rest_fit) (length-take_within size rest f.some) in
        record {
          run = b.header ++ digits 8 size v;
          more = drop size rest;
          is = (b.header, b.number / 2, v, subst (λ (k : ℕ). IsVarint b.header k) double b.is, f.wide, below, refl);
          spelled = all ∙ ap (λ xs. b.header ++ xs) (sym (joins size rest) ∙ ap (λ xs. xs ++ drop size rest) (sym (value_spelled size rest rest_fit f.some)))
              ∙ sym (append_assoc b.header (digits 8 size v) (drop size rest));
        }

    odd : (m : ℕ) (rest : List ℕ) → packed_at w left before (m / 2) rest ≡ Err OverWidth → Over w bytes
    odd m rest read =
        let n : ℕ = m / 2 in
        let p = packed_begun w left n before rest (Err OverWidth) (λ e. let d : OverWidth ≡ BadRun = err_is OverWidth BadRun e in cc) read in
        elim (groups_refuse w n left rest OverWidth (to_refusal w left n rest OverWidth p.read)) [ inl e ↦ cc | inr e ↦ cc ]

    header : (r : Result (ℕ × List ℕ) HybridFault) → capped_at bytes ≡ r → Over w bytes
    header (Err e) read =
        let bad : e ≡ BadRun = header_refused bytes e (capped_refused bytes e read) in
        let over : e ≡ OverWidth = err_is e OverWidth (sym (unread w left before bytes e read) ∙ h) in
        cc
    header (Ok y) read = kind (is_even bytes) refl
      where
        b : Begun bytes y.0 y.1
        b = begun_of bytes y fit some read

        kind : (t : Bool) → is_even bytes ≡ t → Over w bytes
        kind true e = even y.0 y.1 b (sym (run-even w left y.0 before bytes y.1 read e) ∙ h) e
        kind false e = odd y.0 y.1 (sym (run-odd w left y.0 before bytes y.1 read e) ∙ h)
