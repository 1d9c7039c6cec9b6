use Rattle.std.proofs.Common.{◌≡◌, slice_range}
use Rattle.fd_table_file.specs.Columns.{cells_of, column_at}
use Rattle.fd_table_file.proofs.cells.cells_of.Given as goal

abbrev pub invariant-loop-at : goal.invariant-loop-at
invariant-loop-at l = l.cells ≡ slice_range (cells_of (column_at l.table l.column) l.table) l.from l.at
