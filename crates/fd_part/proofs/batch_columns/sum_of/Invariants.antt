use Rattle.std.proofs.Common.{◌≡◌, take}
use Rattle.fd_part.specs.Sizes.{bytes_of}
use Rattle.fd_part.proofs.batch_columns.sum_of.Given as goal

abbrev pub invariant-loop-row : goal.invariant-loop-row
invariant-loop-row l = l.sum ≡ bytes_of (take l.row-index l.rows)
