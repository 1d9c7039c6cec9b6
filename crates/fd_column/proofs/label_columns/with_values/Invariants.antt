use Rattle.std.proofs.Common.{◌≡◌, map}
use Rattle.fd_column.specs.LabelColumns.{with_value}
use Rattle.fd_column.proofs.label_columns.with_values.Given as goal

abbrev pub invariant-loop-column : goal.invariant-loop-column
invariant-loop-column l = l.more ≡ map (with_value l.pairs) l.yielded
