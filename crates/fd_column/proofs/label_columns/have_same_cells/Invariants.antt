use Rattle.std.proofs.Common.{◌≡◌, take}
use Rattle.std.specs.Prelude.{All}
use Rattle.fd_dictionary.specs.Dictionaries.{cell_in}
use Rattle.fd_column.proofs.label_columns.have_same_cells.Given as goal

abbrev pub invariant-loop-column : goal.invariant-loop-column
invariant-loop-column l = All (λ c. cell_in c.cells l.a ≡ cell_in c.cells l.b) (take l.column-index l.columns)
