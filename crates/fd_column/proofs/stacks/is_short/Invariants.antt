use Rattle.std.proofs.Common.{take}
use Rattle.fd_column.specs.Stacks.{AreShort}
use Rattle.fd_column.proofs.stacks.is_short.Given as goal

abbrev pub invariant-loop-frame : goal.invariant-loop-frame
invariant-loop-frame l = AreShort (take l.frame-index l.stack)
