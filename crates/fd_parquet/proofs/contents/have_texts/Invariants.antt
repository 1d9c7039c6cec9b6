use Rattle.std.proofs.Common.{take}
use Rattle.std.specs.Prelude.{All}
use Rattle.fd_table_file.specs.Columns.{HasText}
use Rattle.fd_parquet.proofs.contents.have_texts.Given as goal

abbrev pub invariant-loop-cell : goal.invariant-loop-cell
invariant-loop-cell l = All (HasText l.column) (take l.cell-index l.cells)
