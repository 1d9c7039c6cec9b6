use Rattle.std.proofs.Common.{length}
use Rattle.fd_open.proofs.Shelves.{Adding}
use Rattle.fd_open.proofs.shelving.add_batches.Given as goal

abbrev pub invariant-loop-batch : goal.invariant-loop-batch
invariant-loop-batch l = Adding l.fn.shelf l.batches l.shelf l.rest

abbrev pub decreases-loop-batch : goal.decreases-loop-batch
decreases-loop-batch l = length l.rest
