use Rattle.std.proofs.Common.{◌≡◌, take, map}
use Rattle.fd_pprof.specs.Profile.{signed}
use Rattle.fd_pprof.proofs.builder.values.Given as goal

abbrev pub invariant-loop-n : goal.invariant-loop-n
invariant-loop-n l = l.all ≡ map signed (take l.n-index l.raw)
