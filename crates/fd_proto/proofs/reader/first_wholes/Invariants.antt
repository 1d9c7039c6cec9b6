use Rattle.std.proofs.Common.{◌≡◌, take, map}
use Rattle.fd_proto.specs.Messages.{whole}
use Rattle.fd_proto.proofs.reader.first_wholes.Given as goal

abbrev pub invariant-loop-part : goal.invariant-loop-part
invariant-loop-part l = l.all ≡ map (whole 1) (take l.part-index l.parts)
