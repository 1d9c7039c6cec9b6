use Rattle.std.proofs.Common.{◌≡◌, ◌++◌, length}
use Rattle.fd_column.specs.Stacks.{frames_of, AreShort}
use Rattle.fd_column.proofs.stacks.frames_of.Given as goal

abbrev pub decreases-loop-rest : goal.decreases-loop-rest
decreases-loop-rest l = length l.rest

abbrev pub invariant-loop-rest : goal.invariant-loop-rest
invariant-loop-rest l = record {
  frames : l.frames ++ frames_of l.rest ≡ frames_of l.fn.bytes;
  short : AreShort l.frames;
}
