use Rattle.std.proofs.Common.{◌≡◌, take, map}
use Rattle.fd_pprof.specs.Profile.{pair_of}
use Rattle.fd_pprof.proofs.builder.pairs.Given as goal

abbrev pub invariant-loop-label : goal.invariant-loop-label
invariant-loop-label l = l.pairs ≡ map (pair_of l.texts) (take l.label-index l.labels)
