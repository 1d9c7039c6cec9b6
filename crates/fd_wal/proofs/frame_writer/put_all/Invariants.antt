use Rattle.fd_wal.proofs.Sizes.{Adds}
use Rattle.fd_wal.proofs.frame_writer.put_all.Given as goal

abbrev pub invariant-loop-transaction : goal.invariant-loop-transaction
invariant-loop-transaction g l = Adds g.T.Transaction.spelling g.T.Transaction.is_sound l.fn.out l.out l.transactions l.transaction-index
