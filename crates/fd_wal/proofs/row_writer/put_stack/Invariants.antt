use Rattle.std.proofs.Common.{◌++◌, length}
use Rattle.fd_kinds.specs.RowSpelling.{count_bytes, text_spelling}
use Rattle.std.specs.Prelude.{IsUtf8}
use Rattle.fd_wal.proofs.Sizes.{Adds}
use Rattle.fd_wal.proofs.row_writer.put_stack.Given as goal

abbrev pub invariant-loop-frame : goal.invariant-loop-frame
invariant-loop-frame l = Adds text_spelling IsUtf8 (l.fn.out ++ count_bytes (length l.frame-items)) l.out l.frame-items l.frame-index
