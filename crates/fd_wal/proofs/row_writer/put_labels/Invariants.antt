use Rattle.std.proofs.Common.{◌++◌, length}
use Rattle.fd_kinds.specs.RowSpelling.{count_bytes, pair_spelling}
use Rattle.fd_wal.specs.Frames.{IsTextPair}
use Rattle.fd_wal.proofs.Sizes.{Adds}
use Rattle.fd_wal.proofs.row_writer.put_labels.Given as goal

abbrev pub invariant-loop-pair : goal.invariant-loop-pair
invariant-loop-pair l = Adds pair_spelling IsTextPair (l.fn.out ++ count_bytes (length l.pair-items)) l.out l.pair-items l.pair-index
