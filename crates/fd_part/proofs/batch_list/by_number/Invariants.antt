use Rattle.std.proofs.Common.{take}
use Rattle.fd_part.specs.Batches.{AreByNumber}
use Rattle.fd_part.proofs.batch_list.by_number.Given as goal

abbrev pub invariant-loop-at : goal.invariant-loop-at
invariant-loop-at l = AreByNumber l.map (take l.at l.table)
