use Rattle.std.proofs.Common.{◌≡◌, take, map}
use Rattle.fd_pprof.proofs.catalog.ids_of_locations.Given as goal

abbrev pub invariant-loop-location : goal.invariant-loop-location
invariant-loop-location l = l.ids ≡ map (λ x. x.id) (take l.location-index l.raw.locations)
