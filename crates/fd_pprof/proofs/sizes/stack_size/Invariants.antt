use Rattle.std.proofs.Common.{◌≡◌, take}
use Rattle.std.specs.List.{flat_map}
use Rattle.fd_pprof.specs.Frames.{frames_of}
use Rattle.fd_pprof.specs.Sizes.{frames_size}
use Rattle.fd_pprof.proofs.sizes.stack_size.Given as goal

abbrev pub invariant-loop-id : goal.invariant-loop-id
invariant-loop-id l = l.size ≡ frames_size (flat_map (frames_of l.tables.texts l.tables.catalog.raw) (take l.id-index l.sample.locations))
