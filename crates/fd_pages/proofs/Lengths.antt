-- How many bytes definition levels take in hybrid runs.
use Rattle.std.proofs.Common.{◌≡◌, ◌≢◌, ℕ, ◌+◌, ◌*◌, ◌<◌, ◌≤◌, Bool, true, false, List, [], ◌∷◌, length, map, replicate, refl, ap, ◌∙◌, arith}
use Rattle.std.specs.List.{concat, flat_map}
use Rattle.std.proofs.lemmas.List.{length-append, length-map, length-replicate}
use Rattle.fd_hybrid.specs.Digits.{number, digits}
use Rattle.fd_hybrid.specs.Runs.{Run, repeated, packed, AreTaken, AreRuns}
use Rattle.fd_hybrid.specs.Format.{IsVarint, group_bytes, AreSpelled}
use Rattle.fd_pages.specs.declared.cell.Cell.{Cell}
use Rattle.fd_pages.specs.Columns.{sized, plain_values, level}
use Rattle.fd_pages.specs.Pages.{IsBody}

-- a number below 2 ^ 14 takes two bytes at most
short_varint : (bytes : List ℕ) (n : ℕ) → n < 16384 → IsVarint bytes n → length bytes ≤ 2
short_varint [] n lt h = absurd h
short_varint (b ∷ []) n lt h = omega arith
short_varint (b ∷ c ∷ []) n lt h = omega arith
short_varint (b ∷ c ∷ d ∷ bs) n lt (large, small, high, some, sum, (large', small', higher, some', sum', rest)) = absurd (omega (arith, lt, large, sum, large', some', sum'))

one_byte : (n : ℕ) → length (digits 8 1 n) ≡ 1
unfolding digits
one_byte n = refl

groups_length : (gs : List (List ℕ)) → length (flat_map (group_bytes 1) gs) ≡ length gs
groups_length [] = refl
groups_length (g ∷ gs) = length-append (group_bytes 1 g) (flat_map (group_bytes 1) gs) ∙ omega (arith, one_byte (number 1 g), groups_length gs)

-- a group has a value at least
groups_within : (gs : List (List ℕ)) (behind : List ℕ) → AreTaken gs behind → length gs ≤ length (concat gs)
groups_within [] behind h = omega arith
groups_within (g ∷ gs) behind h = omega (arith, h.0.0, length-append g (concat gs), groups_within gs behind h.2)

some_group : (gs : List (List ℕ)) → gs ≢ [] → 0 < length gs
some_group [] h = absurd (h refl)
some_group (g ∷ gs) h = omega arith

-- a run has at most three bytes for each value
runs_within : (runs : List Run) (values bytes : List ℕ) → length values < 8192 → AreRuns runs values → AreSpelled 1 runs bytes → length bytes ≤ 3 * length values
runs_within [] values bytes few are spelled = omega (arith, ap length spelled)
runs_within (repeated n v ∷ rs) values bytes few (behind, split, many, next, later) (front, rest, whole, (header, number, run), others) =
    let counted : length values ≡ n + length behind = ap length split ∙ length-append (replicate n v) behind ∙ ap (λ k. k + length behind) (length-replicate n v) in
    let short : length header ≤ 2 = short_varint header (2 * n) (omega (arith, counted, few)) number in
    let run_length : length front ≡ length header + 1 = ap length run ∙ length-append header (digits 8 1 v) ∙ ap (λ k. length header + k) (one_byte v) in
    let more : length rest ≤ 3 * length behind = runs_within rs behind rest (omega (arith, counted, few)) later others in
    omega (arith, ap length whole, length-append front rest, counted, short, run_length, more, many)
runs_within (packed gs ∷ rs) values bytes few (behind, split, some, taken, later) (front, rest, whole, (header, number, run), others) =
    let counted : length values ≡ length (concat gs) + length behind = ap length split ∙ length-append (concat gs) behind in
    let groups : length gs ≤ length (concat gs) = groups_within gs behind taken in
    let short : length header ≤ 2 = short_varint header (2 * length gs + 1) (omega (arith, counted, groups, few)) number in
    let run_length : length front ≡ length header + length gs = ap length run ∙ length-append header (flat_map (group_bytes 1) gs) ∙ ap (λ k. length header + k) (groups_length gs) in
    let more : length rest ≤ 3 * length behind = runs_within rs behind rest (omega (arith, counted, few)) later others in
    omega (arith, ap length whole, length-append front rest, counted, groups, short, run_length, more, some_group gs some)

pub body_within : (required : Bool) (cells : List Cell) (body : List ℕ) → length cells ≤ 1000 → IsBody required cells body → length body ≤ length (plain_values cells) + 3004
body_within true cells body few spelled = omega (arith, ap length spelled)
body_within false cells body few (runs, (parts, are, spelled), whole) =
    let counted : length (map level cells) ≡ length cells = length-map cells level in
    let short : length runs ≤ 3 * length (map level cells) = runs_within parts (map level cells) runs (omega (arith, counted, few)) are spelled in
    omega (arith, ap length whole, length-append (sized runs) (plain_values cells), counted, short, few)
