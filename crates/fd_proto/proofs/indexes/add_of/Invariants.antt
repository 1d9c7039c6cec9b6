use Rattle.std.proofs.Common.{◌≡◌, ◌++◌, take, map}
use Rattle.fd_proto.specs.Messages.{whole}
use Rattle.fd_proto.proofs.indexes.add_of.Given as goal

abbrev pub invariant-loop-number : goal.invariant-loop-number
invariant-loop-number l = l.all ≡ l.fn.all ++ map (λ k. whole k l.list) (take l.number-index l.numbers)
