-- Rows in the row order, as a test of neighbours.
use Rattle.std.specs.Prelude.{Bool, true, not, ◌&&◌, List, [], ◌∷◌}
use Rattle.std.specs.Ordering.{is_lt}
use Rattle.fd_kinds.specs.declared.row.Row.{Row}
use Rattle.fd_kinds.specs.RowOrder.{row_cmp}

-- the row does not stand behind the first of the rows
abbrev pub is_in_front : Row → List Row → Bool
is_in_front row [] = true
is_in_front row (first ∷ rest) = not (is_lt (row_cmp first row))

abbrev pub are_sorted : List Row → Bool
are_sorted [] = true
are_sorted (row ∷ rows) = is_in_front row rows && are_sorted rows
