use Rattle.std.proofs.Common.{◌≡◌, ℕ, ◌++◌, take, drop}
use Rattle.fd_column.specs.LabelColumns.{add_column}
use Rattle.fd_column.proofs.label_columns.place_for.Given as goal

abbrev pub invariant-loop-column : goal.invariant-loop-column
invariant-loop-column l = record {
  at : l.place ≡ l.column-index;
  rest : (count : ℕ) → take l.column-index l.columns ++ add_column count (drop l.column-index l.columns) l.name ≡ add_column count l.columns l.name;
}
