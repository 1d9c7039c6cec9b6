use Rattle.std.proofs.Common.{◌≡◌, ◌++◌, replicate}
use Rattle.fd_hybrid.proofs.unpacker.push_copies.Given as goal

abbrev pub invariant-loop : goal.invariant-loop
invariant-loop l = l.values ≡ l.fn.values ++ replicate l.counter l.value
