use Rattle.std.proofs.Common.{◌≡◌, take, map}
use Rattle.fd_pprof.specs.Frames.{location_frames}
use Rattle.fd_pprof.specs.Sizes.{frames_size}
use Rattle.fd_pprof.proofs.sizes.sizes_of.Given as goal

abbrev pub invariant-loop-location : goal.invariant-loop-location
invariant-loop-location l = l.sizes ≡ map (λ x. frames_size (location_frames l.texts l.of.raw x)) (take l.location-index l.of.raw.locations)
