use Rattle.std.proofs.Common.{◌≡◌, take}
use Rattle.fd_kinds.specs.Parts.{with_number}
use Rattle.fd_part.proofs.batch_columns.numbered_rows.Given as goal

abbrev pub invariant-loop-row : goal.invariant-loop-row
invariant-loop-row l = l.builder ≡ with_number 0 (take l.row-index l.rows)
