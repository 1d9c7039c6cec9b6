use Rattle.fd_table_file.proofs.ColumnLaws.{of_columns}
use Rattle.fd_table_file.proofs.laws.cells_have_kinds.Goals as goal

pub returns : goal.returns
returns c = of_columns
