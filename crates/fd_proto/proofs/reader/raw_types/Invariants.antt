use Rattle.std.proofs.Common.{◌≡◌, take, map}
use Rattle.fd_proto.specs.Raw.{raw_type}
use Rattle.fd_proto.proofs.reader.raw_types.Given as goal

abbrev pub invariant-loop-part : goal.invariant-loop-part
invariant-loop-part l = l.all ≡ map raw_type (take l.part-index l.parts)
