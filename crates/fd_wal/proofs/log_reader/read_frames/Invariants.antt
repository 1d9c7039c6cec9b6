use Rattle.std.proofs.Common.{length}
use Rattle.fd_wal.proofs.Replaying.{Reaches}
use Rattle.fd_wal.proofs.log_reader.read_frames.Given as goal

abbrev pub invariant-loop-gathered : goal.invariant-loop-gathered
invariant-loop-gathered l = Reaches l.bytes l.rest l.first l.gathered

abbrev pub decreases-loop-gathered : goal.decreases-loop-gathered
decreases-loop-gathered l = length l.rest
