use Rattle.std.proofs.Common.{◌≡◌, drop}
use Rattle.fd_kinds.specs.LabelMaps.{value_of}
use Rattle.fd_column.proofs.label_columns.value_in.Given as goal

abbrev pub invariant-loop-pair : goal.invariant-loop-pair
invariant-loop-pair l = value_of (drop l.pair-index l.pairs) l.name ≡ value_of l.pairs l.name
