use Rattle.std.proofs.Common.{◌≡◌, map, take}
use Rattle.fd_column.specs.Cells.{columns_of}
use Rattle.fd_table_file.specs.Columns.{cells_of}
use Rattle.fd_table_file.proofs.comparison.has_cells.Given as goal

abbrev pub invariant-loop-column : goal.invariant-loop-column
invariant-loop-column l = take l.column l.cells ≡ take l.column (map (λ c. cells_of c l.table) (columns_of l.table))
