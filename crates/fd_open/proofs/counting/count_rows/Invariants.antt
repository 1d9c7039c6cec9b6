use Rattle.std.proofs.Common.{◌≡◌, ◌+◌, length}
use Rattle.std.specs.List.{sum_by}
use Rattle.fd_wal.specs.Runs.{rows_in}
use Rattle.fd_open.proofs.counting.count_rows.Given as goal

abbrev pub invariant-loop-rest : goal.invariant-loop-rest
invariant-loop-rest l = l.rows + sum_by length (rows_in l.rest) ≡ l.before + sum_by length (rows_in l.batches)

abbrev pub decreases-loop-rest : goal.decreases-loop-rest
decreases-loop-rest l = length l.rest
