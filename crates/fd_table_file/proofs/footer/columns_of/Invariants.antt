use Rattle.std.proofs.Common.{◌≡◌, map, take}
use Rattle.fd_column.specs.Cells.{columns_of}
use Rattle.fd_table_file.specs.Columns.{file_column}
use Rattle.fd_table_file.proofs.footer.columns_of.Given as goal

abbrev pub invariant-loop-at : goal.invariant-loop-at
invariant-loop-at l = l.columns ≡ map file_column (take l.at (columns_of l.table))
