use Rattle.std.proofs.Common.{take}
use Rattle.fd_device.specs.Slots.{IsAbsent}
use Rattle.fd_device.proofs.recorder.bytes_of.Given as goal

abbrev pub invariant-loop-slot : goal.invariant-loop-slot
invariant-loop-slot l = IsAbsent (take l.slot-index l.slots) l.file
