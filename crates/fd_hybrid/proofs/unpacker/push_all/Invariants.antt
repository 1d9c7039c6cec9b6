use Rattle.std.proofs.Common.{◌≡◌, ◌++◌, take}
use Rattle.fd_hybrid.proofs.unpacker.push_all.Given as goal

abbrev pub invariant-loop-value : goal.invariant-loop-value
invariant-loop-value l = l.values ≡ l.fn.values ++ take l.value-index l.more
