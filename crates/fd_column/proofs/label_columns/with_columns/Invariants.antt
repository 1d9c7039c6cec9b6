use Rattle.std.proofs.Common.{◌≡◌, take}
use Rattle.fd_column.specs.LabelColumns.{add_columns}
use Rattle.fd_column.proofs.label_columns.with_columns.Given as goal

abbrev pub invariant-loop-pair : goal.invariant-loop-pair
invariant-loop-pair l = l.more ≡ add_columns l.fn.count l.fn.columns (take l.pair-index l.pairs)
