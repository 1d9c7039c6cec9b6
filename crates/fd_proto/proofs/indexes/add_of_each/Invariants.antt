use Rattle.std.proofs.Common.{◌≡◌, ◌++◌, take, map}
use Rattle.std.specs.List.{flat_map}
use Rattle.fd_proto.specs.Messages.{whole}
use Rattle.fd_proto.proofs.indexes.add_of_each.Given as goal

abbrev pub invariant-loop-part : goal.invariant-loop-part
invariant-loop-part l = l.all ≡ l.fn.all ++ flat_map (λ list. map (λ k. whole k list) l.numbers) (take l.part-index l.parts)
