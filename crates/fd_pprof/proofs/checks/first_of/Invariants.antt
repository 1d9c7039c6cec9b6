use Rattle.std.proofs.Common.{◌≡◌, drop}
use Rattle.fd_pprof.specs.Profile.{first_of}
use Rattle.fd_pprof.proofs.checks.first_of.Given as goal

abbrev pub invariant-loop-holds : goal.invariant-loop-holds
invariant-loop-holds l = first_of (drop l.holds-index l.checks) ≡ first_of l.checks
