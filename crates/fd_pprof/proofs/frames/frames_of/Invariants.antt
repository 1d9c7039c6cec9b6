use Rattle.std.proofs.Common.{◌≡◌, take}
use Rattle.std.specs.List.{flat_map}
use Rattle.fd_pprof.specs.Frames.{frames_of}
use Rattle.fd_pprof.proofs.frames.frames_of.Given as goal

abbrev pub invariant-loop-id : goal.invariant-loop-id
invariant-loop-id l = l.all ≡ flat_map (frames_of l.texts l.of.raw) (take l.id-index l.sample.locations)
