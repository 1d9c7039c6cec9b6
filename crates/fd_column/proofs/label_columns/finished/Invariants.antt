use Rattle.std.proofs.Common.{◌≡◌}
use Rattle.fd_column.proofs.label_columns.finished.Given as goal

abbrev pub invariant-loop-column : goal.invariant-loop-column
invariant-loop-column l = l.done ≡ l.yielded
