use Rattle.std.proofs.Common.{◌≡◌, ◌++◌, take}
use Rattle.std.specs.List.{flat_map}
use Rattle.fd_proto.specs.Shape.{text_indexes, sample}
use Rattle.fd_proto.proofs.indexes.add_of_samples.Given as goal

abbrev pub invariant-loop-part : goal.invariant-loop-part
invariant-loop-part l = l.all ≡ l.fn.all ++ flat_map (text_indexes l.bytes sample) (take l.part-index l.samples)
