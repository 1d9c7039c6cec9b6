use Rattle.std.proofs.Common.{◌≡◌, take, map}
use Rattle.fd_pprof.specs.Profile.{value_type_of}
use Rattle.fd_pprof.proofs.builder.value_types.Given as goal

abbrev pub invariant-loop-one : goal.invariant-loop-one
invariant-loop-one l = l.all ≡ map (value_type_of l.texts) (take l.one-index l.raw)
