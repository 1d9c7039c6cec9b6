use Rattle.std.proofs.Common.{◌-◌}
use Rattle.fd_codes.proofs.Widths.{Grows}
use Rattle.fd_codes.proofs.width.width_of.Given as goal

abbrev pub invariant-loop-room : goal.invariant-loop-room
invariant-loop-room l = Grows l.count l.width l.room

abbrev pub decreases-loop-room : goal.decreases-loop-room
decreases-loop-room l = l.count - l.room
