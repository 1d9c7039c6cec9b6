use Rattle.std.proofs.Common.{◌≤◌, drop, map, length}
use Rattle.fd_pprof.specs.Profile.{pair_of}
use Rattle.fd_pprof.specs.Winners.{AreSeen, AreWinners}
use Rattle.fd_pprof.proofs.winners.winners.Given as goal

abbrev pub invariant-loop-i : goal.invariant-loop-i
invariant-loop-i l = record {
  within : l.i ≤ length l.raw;
  seen : AreSeen l.tables.texts (map (pair_of l.tables.texts) (drop l.i l.raw)) l.seen;
  won : AreWinners (map (pair_of l.tables.texts) l.labels) (map (pair_of l.tables.texts) (drop l.i l.raw));
}

abbrev pub decreases-loop-i : goal.decreases-loop-i
decreases-loop-i l = l.i
