use Rattle.fd_device.specs.MemFiles.{RestartsUpto}
use Rattle.fd_device.proofs.recorder.restart_all.Given as goal

abbrev pub invariant-loop-i : goal.invariant-loop-i
invariant-loop-i l = RestartsUpto l.i l.fn.slots.items l.slots.items
