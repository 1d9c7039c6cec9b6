use Rattle.std.proofs.Common.{◌≡◌, ◌-◌, ◌^◌, min, take}
use Rattle.fd_wal.specs.Frames.{batches_size}
use Rattle.fd_wal.specs.Runs.{rows_in}
use Rattle.fd_wal.proofs.frame_reader.size_of.Given as goal

abbrev pub invariant-loop-batch : goal.invariant-loop-batch
invariant-loop-batch l = l.size ≡ min (batches_size (rows_in (take l.batch-index l.batches))) (2 ^ 64 - 1)
