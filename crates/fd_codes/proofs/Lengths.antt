-- How many bytes hybrid runs of a page's values take.
use Rattle.std.proofs.Common.{◌≡◌, ◌≢◌, ℕ, zero, suc, ◌+◌, ◌*◌, ◌<◌, ◌≤◌, List, [], ◌∷◌, ◌++◌, length, replicate, refl, ap, ◌∙◌, arith}
use Rattle.std.specs.List.{concat, flat_map}
use Rattle.std.proofs.lemmas.List.{length-append, length-replicate}
use Rattle.fd_hybrid.specs.Digits.{number, digits}
use Rattle.fd_hybrid.specs.Runs.{Run, repeated, packed, AreTaken, AreRuns}
use Rattle.fd_hybrid.specs.Format.{IsVarint, byte_count, group_bytes, AreSpelled, IsSpelling}

-- a number below 2 ^ 14 takes two bytes at most
short_varint : (bytes : List ℕ) (n : ℕ) → n < 16384 → IsVarint bytes n → length bytes ≤ 2
short_varint [] n lt h = absurd h
short_varint (b ∷ []) n lt h = omega arith
short_varint (b ∷ c ∷ []) n lt h = omega arith
short_varint (b ∷ c ∷ d ∷ bs) n lt (large, small, high, some, sum, (large', small', higher, some', sum', rest)) = absurd (omega (arith, lt, large, sum, large', some', sum'))

digits_length : (w k n : ℕ) → length (digits w k n) ≡ k
unfolding digits
digits_length w zero n = refl
digits_length w (suc k) n = ap suc (digits_length w k _)

groups_length : (w : ℕ) (gs : List (List ℕ)) → w ≤ 32 → length (flat_map (group_bytes w) gs) ≤ 32 * length gs
groups_length w [] wide = omega arith
groups_length w (g ∷ gs) wide = omega (arith, wide, length-append (group_bytes w g) (flat_map (group_bytes w) gs), digits_length 8 w (number w g), groups_length w gs wide)

-- a group has a value at least
groups_within : (gs : List (List ℕ)) (behind : List ℕ) → AreTaken gs behind → length gs ≤ length (concat gs)
groups_within [] behind h = omega arith
groups_within (g ∷ gs) behind h = omega (arith, h.0.0, length-append g (concat gs), groups_within gs behind h.2)

some_group : (gs : List (List ℕ)) → gs ≢ [] → 0 < length gs
some_group [] h = absurd (h refl)
some_group (g ∷ gs) h = omega arith

few_bytes : (w : ℕ) → w ≤ 32 → byte_count w ≤ 4
few_bytes w wide = omega (arith, wide)

-- a run has at most 34 bytes for each value
runs_within : (w : ℕ) (runs : List Run) (values bytes : List ℕ) → w ≤ 32 → length values < 8192 → AreRuns runs values → AreSpelled w runs bytes → length bytes ≤ 34 * length values
runs_within w [] values bytes wide few are spelled = omega (arith, ap length spelled)
runs_within w (repeated n v ∷ rs) values bytes wide few (behind, split, many, next, later) (front, rest, whole, (header, number, run), others) =
    let counted : length values ≡ n + length behind = ap length split ∙ length-append (replicate n v) behind ∙ ap (λ k. k + length behind) (length-replicate n v) in
    let short : length header ≤ 2 = short_varint header (2 * n) (omega (arith, counted, few)) number in
    let run_length : length front ≡ length header + byte_count w = ap length run ∙ length-append header (digits 8 (byte_count w) v) ∙ ap (λ k. length header + k) (digits_length 8 (byte_count w) v) in
    let more : length rest ≤ 34 * length behind = runs_within w rs behind rest wide (omega (arith, counted, few)) later others in
    omega (arith, ap length whole, length-append front rest, counted, short, run_length, few_bytes w wide, more, many)
runs_within w (packed gs ∷ rs) values bytes wide few (behind, split, some, taken, later) (front, rest, whole, (header, number, run), others) =
    let counted : length values ≡ length (concat gs) + length behind = ap length split ∙ length-append (concat gs) behind in
    let groups : length gs ≤ length (concat gs) = groups_within gs behind taken in
    let short : length header ≤ 2 = short_varint header (2 * length gs + 1) (omega (arith, counted, groups, few)) number in
    let run_length : length front ≡ length header + length (flat_map (group_bytes w) gs) = ap length run ∙ length-append header (flat_map (group_bytes w) gs) in
    let more : length rest ≤ 34 * length behind = runs_within w rs behind rest wide (omega (arith, counted, few)) later others in
    omega (arith, ap length whole, length-append front rest, counted, groups, short, run_length, groups_length w gs wide, more, some_group gs some)

pub spelling_short : (w : ℕ) (values bytes : List ℕ) → w ≤ 32 → length values ≤ 1000 → IsSpelling w values bytes → length bytes ≤ 100000
spelling_short w values bytes wide few (runs, are, spelled) = omega (arith, few, runs_within w runs values bytes wide (omega (arith, few)) are spelled)
