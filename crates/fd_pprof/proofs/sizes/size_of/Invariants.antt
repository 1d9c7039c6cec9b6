use Rattle.std.proofs.Common.{◌≡◌, take, map}
use Rattle.fd_pprof.specs.Frames.{frame}
use Rattle.fd_pprof.specs.Sizes.{frames_size}
use Rattle.fd_pprof.proofs.sizes.size_of.Given as goal

abbrev pub invariant-loop-id : goal.invariant-loop-id
invariant-loop-id l = l.size ≡ frames_size (map (frame l.texts l.of.raw l.location.address) (take l.id-index l.location.lines))
