use Rattle.std.proofs.Common.{◌≡◌, take}
use Rattle.fd_column.specs.LabelColumns.{pairs_at}
use Rattle.fd_column.proofs.label_columns.labels_at.Given as goal

abbrev pub invariant-loop-column : goal.invariant-loop-column
invariant-loop-column l = l.pairs ≡ pairs_at (take l.column-index l.column-items) l.fn.at
