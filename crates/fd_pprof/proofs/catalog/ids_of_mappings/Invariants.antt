use Rattle.std.proofs.Common.{◌≡◌, take}
use Rattle.fd_pprof.proofs.catalog.ids_of_mappings.Given as goal

abbrev pub invariant-loop-id : goal.invariant-loop-id
invariant-loop-id l = l.ids ≡ take l.id-index l.raw.mappings
