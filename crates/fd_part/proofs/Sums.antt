-- The bytes of rows, one row after another.
use Rattle.std.specs.Prelude.{◌≡◌, ℕ, ◌+◌, ◌-◌, ◌^◌, List, [], ◌∷◌, ◌++◌, take, min, sum_by, Some, slice_get}
use Rattle.std.proofs.Common.{arith, ap, ◌∙◌}
use Rattle.std.proofs.lemmas.List.{take_more}
use Rattle.std.proofs.lemmas.List.Sums.{sum_by_push}
use Rattle.std.proofs.lemmas.Option.{slice_get_within, get_or_from_slice_get}
use Rattle.fd_kinds.specs.declared.row.Numbered.{Numbered}
use Rattle.fd_kinds.specs.Parts.{held_bytes}
use Rattle.fd_kinds.specs.RowSize.{row_size}

more : (rows : List Numbered) (at : ℕ) (n : Numbered) → slice_get rows at ≡ Some n
    → sum_by (λ (r : Numbered). row_size r.row) (take (at + 1) rows) ≡ sum_by (λ (r : Numbered). row_size r.row) (take at rows) + row_size n.row
more rows at n there =
    ap (sum_by (λ (r : Numbered). row_size r.row)) (take_more rows at n (slice_get_within rows at n there) ∙ ap (λ r. take at rows ++ r ∷ []) (get_or_from_slice_get rows at n n there))
    ∙ sum_by_push (λ (r : Numbered). row_size r.row) (take at rows) n

-- the bytes up to a row, and of the row
pub held_more : (rows : List Numbered) (at : ℕ) (n : Numbered) → slice_get rows at ≡ Some n
    → held_bytes (take (at + 1) rows) ≡ min (held_bytes (take at rows) + min (row_size n.row) (2 ^ 64 - 1)) (2 ^ 64 - 1)
held_more rows at n there = omega (arith, more rows at n there)
