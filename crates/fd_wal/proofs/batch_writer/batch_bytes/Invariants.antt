use Rattle.std.proofs.Common.{◌≡◌, ◌-◌, ◌^◌, min, take}
use Rattle.fd_wal.specs.Frames.{rows_size}
use Rattle.fd_wal.proofs.batch_writer.batch_bytes.Given as goal

abbrev pub invariant-loop-row : goal.invariant-loop-row
invariant-loop-row l = l.size ≡ min (rows_size (take l.row-index l.row-items)) (2 ^ 64 - 1)
