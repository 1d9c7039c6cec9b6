use Rattle.std.proofs.Common.{◌≡◌, take}
use Rattle.fd_table_file.specs.Columns.{cells_of, column_at}
use Rattle.fd_table_file.proofs.comparison.has_column.Given as goal

abbrev pub invariant-loop-at : goal.invariant-loop-at
invariant-loop-at l = take l.at l.cells ≡ take l.at (cells_of (column_at l.table l.column) l.table)
