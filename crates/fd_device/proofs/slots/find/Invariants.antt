use Rattle.std.proofs.Common.{take}
use Rattle.fd_device.specs.Slots.{IsAbsent}
use Rattle.fd_device.proofs.slots.find.Given as goal

abbrev pub invariant-loop-i : goal.invariant-loop-i
invariant-loop-i g l = IsAbsent (take l.i l.slots) l.file
