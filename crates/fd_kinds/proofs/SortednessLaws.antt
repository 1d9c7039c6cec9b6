-- Rows are sorted exactly where each stands right before the next.
use Rattle.std.specs.Prelude.{◌≡◌, ℕ, zero, suc, ◌+◌, Bool, true, false, not, List, [], ◌∷◌, slice_index_or, IsSorted, refl}
use Rattle.std.specs.Ordering.{is_lt}
use Rattle.std.proofs.Common.{arith, ap, sym, ◌∙◌, subst, true≢false}
use Rattle.std.proofs.lemmas.Bool.{and_from, and_parts}
use Rattle.fd_kinds.specs.declared.row.Row.{Row}
use Rattle.fd_kinds.specs.RowOrder.{row_cmp}
use Rattle.fd_kinds.specs.Sortedness.{is_in_front, are_sorted}

not_so : (b : Bool) → not b ≡ true → b ≡ false
not_so true e = absurd (true≢false (sym e))
not_so false e = refl

so_not : (b : Bool) → b ≡ false → not b ≡ true
so_not b e = ap not e

pub sorted_from : (rows : List Row) → are_sorted rows ≡ true → IsSorted row_cmp rows
sorted_from [] all k d low inside = absurd (omega arith)
sorted_from (row ∷ []) all k d low inside = absurd (omega arith)
sorted_from (row ∷ next ∷ rows) all zero d low inside = not_so (is_lt (row_cmp next row)) ((and_parts (is_in_front row (next ∷ rows)) (are_sorted (next ∷ rows)) all).0)
sorted_from (row ∷ next ∷ rows) all (suc k) d low inside =
    let rest : are_sorted (next ∷ rows) ≡ true = (and_parts (is_in_front row (next ∷ rows)) (are_sorted (next ∷ rows)) all).1 in
    let place : suc (k + 1) ≡ suc k + 1 = omega arith in
    let found : is_lt (row_cmp (slice_index_or (next ∷ rows) (k + 1) d) (slice_index_or (next ∷ rows) k d)) ≡ false =
    sorted_from (next ∷ rows) rest k d (omega arith) (omega (arith, inside)) in
    subst (λ (n : ℕ). is_lt (row_cmp (slice_index_or (row ∷ next ∷ rows) n d) (slice_index_or (next ∷ rows) k d)) ≡ false) place found

later : (row : Row) (rows : List Row) → IsSorted row_cmp (row ∷ rows) → IsSorted row_cmp rows
later row rows sorted k d low inside =
    let next : suc k + 1 ≡ suc (k + 1) = omega arith in
    subst (λ (n : ℕ). is_lt (row_cmp (slice_index_or (row ∷ rows) n d) (slice_index_or (row ∷ rows) (suc k) d)) ≡ false) next (sorted (suc k) d (omega arith) (omega (arith, inside)))

pub sorted_are : (rows : List Row) → IsSorted row_cmp rows → are_sorted rows ≡ true
sorted_are [] sorted = refl
sorted_are (row ∷ []) sorted = refl
sorted_are (row ∷ next ∷ rows) sorted =
    and_from (is_in_front row (next ∷ rows)) (are_sorted (next ∷ rows)) (so_not (is_lt (row_cmp next row)) (sorted 0 row (omega arith) (omega arith))) (sorted_are (next ∷ rows) (later row (next ∷ rows) sorted))

pub unsorted : (rows : List Row) → are_sorted rows ≡ false → IsSorted row_cmp rows → ⊥
unsorted rows found sorted = true≢false (sym (sorted_are rows sorted) ∙ found)
