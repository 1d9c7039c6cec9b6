use Rattle.std.proofs.Common.{◌++◌, length}
use Rattle.fd_kinds.specs.RowSpelling.{count_bytes, row_spelling}
use Rattle.fd_wal.specs.Frames.{IsRow}
use Rattle.fd_wal.proofs.Sizes.{Adds}
use Rattle.fd_wal.proofs.batch_writer.put_batch.Given as goal

abbrev pub invariant-loop-row : goal.invariant-loop-row
invariant-loop-row l = Adds row_spelling IsRow (l.fn.out ++ count_bytes (length l.row-items)) l.out l.row-items l.row-index
