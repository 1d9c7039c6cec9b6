use Rattle.std.proofs.Common.{◌≡◌, ◌+◌, drop}
use Rattle.fd_pprof.specs.Ids.{are_run}
use Rattle.fd_pprof.proofs.index.are_run.Given as goal

abbrev pub invariant-loop-i : goal.invariant-loop-i
invariant-loop-i l = are_run (l.i + 1) (drop l.i l.ids) ≡ are_run 1 l.ids
