use Rattle.std.proofs.Common.{◌≡◌, ◌++◌, map, take}
use Rattle.fd_column.proofs.names.with_names.Given as goal

abbrev pub invariant-loop-column : goal.invariant-loop-column
invariant-loop-column l = l.more ≡ l.fn.names ++ map (λ column. l.prefix ++ column.name) (take l.column-index l.columns)
