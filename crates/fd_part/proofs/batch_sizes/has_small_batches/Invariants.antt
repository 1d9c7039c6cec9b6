use Rattle.std.proofs.Common.{take}
use Rattle.fd_part.specs.Sizes.{AreSizes}
use Rattle.fd_part.proofs.batch_sizes.has_small_batches.Given as goal

abbrev pub invariant-loop-at : goal.invariant-loop-at
invariant-loop-at l = AreSizes l.sizes (take l.at l.table)
