use Rattle.std.proofs.Common.{◌≡◌, take}
use Rattle.fd_column.specs.Stacks.{stack_bytes}
use Rattle.fd_column.proofs.stacks.spelled.Given as goal

abbrev pub invariant-loop-frame : goal.invariant-loop-frame
invariant-loop-frame l = l.bytes ≡ stack_bytes (take l.frame-index l.stack)
