use Rattle.std.proofs.Common.{◌≡◌, take, map}
use Rattle.fd_pprof.proofs.catalog.ids_of_functions.Given as goal

abbrev pub invariant-loop-function : goal.invariant-loop-function
invariant-loop-function l = l.ids ≡ map (λ x. x.id) (take l.function-index l.raw.functions)
