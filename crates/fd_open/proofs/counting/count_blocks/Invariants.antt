use Rattle.std.proofs.Common.{◌≡◌, ◌-◌, ◌^◌}
use Rattle.fd_open.proofs.CountWalks.{CountWalked}
use Rattle.fd_open.proofs.counting.count_blocks.Given as goal

abbrev pub invariant-loop-found : goal.invariant-loop-found
invariant-loop-found g l =
    let d = g.D.Disk in
    record {
      walked : CountWalked d.honest d.seen d.may_leave d.moment d.left_since l.fn.disk l.disk l.found;
      faults : d.faults l.disk ≡ d.faults l.fn.disk;
    }

abbrev pub decreases-loop-found : goal.decreases-loop-found
decreases-loop-found g l = 2 ^ 63 - l.found.numbers
