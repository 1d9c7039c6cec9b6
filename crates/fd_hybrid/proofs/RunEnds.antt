-- What was read as a run is one; what ends inside of a run can be completed; what is too wide is told.
use Rattle.std.proofs.Common.{◌≡◌, ◌≢◌, ℕ, ◌+◌, ◌*◌, ◌/◌, ◌%◌, ◌^◌, ◌<◌, ◌≤◌, min, false, ◌&&◌, ◌⊎◌, inl, inr, List, [], ◌∷◌, ◌++◌, length, Err, ◌==◌, refl, sym, ap, ◌∙◌, subst, append_assoc, length-append, arith}
use Rattle.std.specs.List.{flat_map}
use Rattle.std.proofs.lemmas.List.{append-nil}
use Rattle.std.proofs.lemmas.Bool.Decides.{nat_tests}
use Rattle.fd_hybrid.specs.declared.fault.HybridFault.TheVariants.{Cut, OverWidth}
use Rattle.fd_hybrid.specs.declared.runs.Before.{Before}
use Rattle.fd_hybrid.specs.Digits.{number, digits}
use Rattle.fd_hybrid.specs.Runs.{Run, repeated, packed}
use Rattle.fd_hybrid.specs.Format.{IsVarint, byte_count, group_bytes, IsRun}
use Rattle.fd_hybrid.specs.Refusals.{IsTooWide}
use Rattle.fd_hybrid.specs.Unpacker.{repeated_at, packed_at, groups_at, run_at, is_even, repeats, goes_on}
use Rattle.fd_hybrid.proofs.Headers.{most}
use Rattle.fd_hybrid.proofs.DigitNumbers.{length-digits}
use Rattle.fd_hybrid.proofs.NextRuns.{May}
use Rattle.fd_hybrid.proofs.GroupLaws.{split, not_empty, groups_cut, le_false}
use Rattle.fd_hybrid.proofs.GroupReads.{Room, groups_room}
use Rattle.fd_hybrid.proofs.GroupCompletions.{groups_exist}
use Rattle.fd_hybrid.proofs.HeaderLaws.{HeaderCut, header_ok, header_cut, parity, capped_of}
use Rattle.fd_hybrid.proofs.OneRun.{run-even, run-odd, repeated_cut, repeated_wide, packed_read, may_go_on, run_parts, header_of, content_of, even_of, odd_of, half_even, half_odd, room_count, positive_groups, some_groups}

pub even_front : (bytes z : List ℕ) → bytes ≢ [] → is_even bytes ≡ is_even (bytes ++ z)
even_front [] z h = absurd (h refl)
even_front (b ∷ bs) z h = refl

pub even_cut : (bytes z header : List ℕ) (n : ℕ) → bytes ≢ [] → header ≡ bytes ++ z → IsVarint header n → is_even bytes ≡ (n % 2 == 0)
even_cut bytes z header n begun e is =
    even_front bytes z begun ∙ ap is_even (sym e) ∙ ap is_even (sym (append-nil header)) ∙ parity header [] n is

no_room_cut : (m0 m left : ℕ) → m0 + 64 ≤ m → Room m left → Room m0 left
no_room_cut m0 m left le (inl p) = inr (omega (arith, p.1))
no_room_cut m0 m left le (inr p) = inr (omega arith)

pub positive_test : (n : ℕ) → 0 < n → (n == 0) ≡ false
positive_test n h = grind (arith, nat_tests)

some_bytes : (w : ℕ) (gs : List (List ℕ)) → 0 < w → 0 < length gs → flat_map (group_bytes w) gs ≢ []
some_bytes w [] wide some = absurd (omega arith)
some_bytes w (g ∷ gs) wide some = λ e.
    let none : length (group_bytes w g ++ flat_map (group_bytes w) gs) ≡ 0 = ap length e in
    absurd (omega (arith, length-append (group_bytes w g) (flat_map (group_bytes w) gs), length-digits 8 w (number w g)))

-- no byte of so many groups is there
pub none_there : (w left m : ℕ) → 0 < w → 0 < m → Room m left → groups_at w m left [] ≡ Err Cut
none_there w left m wide some room =
    let gs = groups_exist w m left wide room in
    ap (λ k. groups_at w k left []) (sym gs.1) ∙ groups_cut w left gs.0 [] (flat_map (group_bytes w) gs.0) gs.3 gs.2 (some_bytes w gs.0 wide (omega (arith, gs.1))) refl

nothing_goes_on : (w : ℕ) (before : Before) → 0 < w → goes_on before w [] ≡ false
nothing_goes_on w before wide = let some : 0 < byte_count w = omega arith in ap (λ b. b && repeats before (number 8 [] % 2 ^ w)) (le_false (byte_count w) 0 some)

-- A run that ends early is cut.
pub run_cut : (w left : ℕ) (before : Before) (run : Run) (front bytes y : List ℕ) → 0 < w → left < 2 ^ 64 → May w left before run → IsRun w front run
    → front ≡ bytes ++ y → bytes ≢ [] → y ≢ [] → run_at w left before bytes ≡ Err Cut
run_cut w left before run front bytes y wide small may is e begun more =
    let parts = run_parts w front run is in
    let same : bytes ++ y ≡ parts.0 ++ content_of w run = sym e ∙ parts.2 in
    elim (split bytes y parts.0 (content_of w run) same) [
      | inl p ↦ in_content run may parts.0 parts.1 p.0 p.1 p.2
      | inr p ↦ in_header run may parts.0 parts.1 p.0 p.1 p.2
    ]
  where
    in_content : (run : Run) → May w left before run → (header : List ℕ) → IsVarint header (header_of run) → (x : List ℕ) → bytes ≡ header ++ x → x ++ y ≡ content_of w run → run_at w left before bytes ≡ Err Cut
    in_content (repeated n v) may header is x e f =
        let read = capped_of (header ++ x) (2 * n) x (header_ok header x (2 * n) is) in
        let count : length x + length y ≡ byte_count w = sym (length-append x y) ∙ ap length f ∙ length-digits 8 (byte_count w) v in
        let some : 0 < length y = not_empty y more in
        ap (run_at w left before) e ∙ run-even w left (min (2 * n) most) before (header ++ x) x read (parity header x (2 * n) is ∙ even_of n)
        ∙ ap (λ k. repeated_at w left before k x) (half_even n left may.1 small) ∙ repeated_cut w left n before x may.0 may.1 (omega arith)
    in_content (packed gs) may header is x e f =
        let m : ℕ = length gs in
        let read = capped_of (header ++ x) (2 * m + 1) x (header_ok header x (2 * m + 1) is) in
        let room : Room m left = groups_room gs left may.1 may.4 in
        let within : m ≤ left = room_count m left (positive_groups gs may.1) room in
        let first : goes_on before w x ≡ false = may_go_on w left before gs x y wide may.1 may.2 may.4 may.3 f in
        ap (run_at w left before) e ∙ run-odd w left (min (2 * m + 1) most) before (header ++ x) x read (parity header x (2 * m + 1) is ∙ odd_of m)
        ∙ ap (λ k. packed_at w left before k x) (half_odd m left within small)
        ∙ packed_read w left m before x (Err Cut) may.0 (some_groups gs may.1) room first (groups_cut w left gs x y may.2 may.4 more f)

    in_header : (run : Run) → May w left before run → (header : List ℕ) → IsVarint header (header_of run) → (z : List ℕ) → z ≢ [] → header ≡ bytes ++ z → run_at w left before bytes ≡ Err Cut
    in_header (repeated n v) may header is z some e =
        let cut : HeaderCut bytes (2 * n) = header_cut bytes z (2 * n) (subst (λ (xs : List ℕ). IsVarint xs (2 * n)) e is) begun some in
        let le : cut.number ≤ 2 * n = near cut.number (2 * n) cut.near in
        let many : 8 ≤ min cut.number most / 2 = omega (arith, cut.least) in
        let within : min cut.number most / 2 ≤ left = omega (arith, may.1) in
        run-even w left (min cut.number most) before bytes [] (capped_of bytes cut.number [] cut.read) (even_cut bytes z header (2 * n) begun e is ∙ even_of n)
        ∙ repeated_cut w left (min cut.number most / 2) before [] many within (omega arith)
      where
        near : (a b : ℕ) → (a ≡ b) ⊎ (a + 128 ≤ b) → a ≤ b
        near a b (inl p) = omega arith
        near a b (inr p) = omega arith
    in_header (packed gs) may header is z some e =
        let m : ℕ = length gs in
        let cut : HeaderCut bytes (2 * m + 1) = header_cut bytes z (2 * m + 1) (subst (λ (xs : List ℕ). IsVarint xs (2 * m + 1)) e is) begun some in
        let room : Room m left = groups_room gs left may.1 may.4 in
        let within : m ≤ left = room_count m left (positive_groups gs may.1) room in
        let k : ℕ = min cut.number most / 2 in
        let positive : 0 < k = omega (arith, cut.least) in
        let room_k : Room k left = fewer cut.number m within room cut.near in
        run-odd w left (min cut.number most) before bytes [] (capped_of bytes cut.number [] cut.read) (even_cut bytes z header (2 * m + 1) begun e is ∙ odd_of m)
        ∙ packed_read w left k before [] (Err Cut) may.0 (positive_test k positive) room_k (nothing_goes_on w before wide) (none_there w left k wide positive room_k)
      where
        fewer : (a m : ℕ) → m ≤ left → Room m left → (a ≡ 2 * m + 1) ⊎ (a + 128 ≤ 2 * m + 1) → Room (min a most / 2) left
        fewer a m within room (inl p) = let same : min a most / 2 ≡ m = ap (λ k. min k most / 2) p ∙ half_odd m left within small in subst (λ (k : ℕ). Room k left) (sym same) room
        fewer a m within room (inr p) = no_room_cut (min a most / 2) m left (omega (arith, within, small)) room

-- A whole repeated run with too wide a value is told, whatever stands before and after it.
pub run_over_only : (w left : ℕ) (before : Before) (run more : List ℕ) → IsTooWide w run → run_at w left before (run ++ more) ≡ Err OverWidth
run_over_only w left before run more (header, n, v, is, wide, fits, e) =
    let content : List ℕ = digits 8 (byte_count w) v ++ more in
    let same : run ++ more ≡ header ++ content = ap (λ xs. xs ++ more) e ∙ append_assoc header (digits 8 (byte_count w) v) more in
    let read = capped_of (header ++ content) (2 * n) content (header_ok header content (2 * n) is) in
    ap (run_at w left before) same ∙ run-even w left (min (2 * n) most) before (header ++ content) content read (parity header content (2 * n) is ∙ even_of n)
    ∙ repeated_wide w left (min (2 * n) most / 2) v before more wide fits
