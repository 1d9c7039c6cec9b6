use Rattle.fd_wal.proofs.BatchRuns.{head_number}
use Rattle.fd_wal.proofs.frame_writer.number_of.Goals as goal

pub returns : goal.returns
returns c = head_number c.args.run.now c.index-run-0.result c.requires
