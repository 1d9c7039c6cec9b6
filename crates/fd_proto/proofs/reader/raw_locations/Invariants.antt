use Rattle.std.proofs.Common.{◌≡◌, take, map}
use Rattle.fd_proto.specs.Raw.{raw_location}
use Rattle.fd_proto.proofs.reader.raw_locations.Given as goal

abbrev pub invariant-loop-part : goal.invariant-loop-part
invariant-loop-part l = l.all ≡ map (raw_location l.bytes) (take l.part-index l.parts)
