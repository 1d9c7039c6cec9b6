use Rattle.std.proofs.Common.{◌≡◌, ◌++◌, take, map}
use Rattle.fd_pprof.specs.Frames.{frame}
use Rattle.fd_pprof.proofs.frames.add_frames.Given as goal

abbrev pub invariant-loop-id : goal.invariant-loop-id
invariant-loop-id l = l.all ≡ l.fn.all ++ map (frame l.texts l.of.raw l.location.address) (take l.id-index l.location.lines)
