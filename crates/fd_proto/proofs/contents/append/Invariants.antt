use Rattle.std.proofs.Common.{◌≡◌, ◌++◌, take}
use Rattle.fd_proto.proofs.contents.append.Given as goal

abbrev pub invariant-loop-n : goal.invariant-loop-n
invariant-loop-n l = l.all ≡ l.fn.all ++ take l.n-index l.more
