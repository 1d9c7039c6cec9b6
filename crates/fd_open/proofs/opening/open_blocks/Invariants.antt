use Rattle.std.proofs.Common.{◌≡◌, ◌-◌, ◌^◌}
use Rattle.fd_open.proofs.Walking.{Walked}
use Rattle.fd_open.proofs.opening.open_blocks.Given as goal

abbrev pub invariant-loop-tail : goal.invariant-loop-tail
invariant-loop-tail g l =
    let d = g.D.Disk in record {
      walked : Walked d.honest d.seen d.may_leave d.moment d.left_since l.fn.disk l.disk l.shelf;
      faults : d.faults l.disk ≡ d.faults l.fn.disk;
    }

abbrev pub decreases-loop-tail : goal.decreases-loop-tail
decreases-loop-tail g l = 2 ^ 63 - l.shelf.mark
