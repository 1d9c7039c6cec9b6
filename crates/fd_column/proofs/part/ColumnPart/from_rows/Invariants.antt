use Rattle.std.proofs.Common.{◌≡◌, take}
use Rattle.fd_column.proofs.part.ColumnPart.from_rows.Given as goal

abbrev pub invariant-loop-row : goal.invariant-loop-row
invariant-loop-row l = l.builder ≡ take l.row-index l.row-items
