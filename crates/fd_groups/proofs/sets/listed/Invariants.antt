use Rattle.std.proofs.Common.{◌≡◌, ◌++◌}
use Rattle.fd_groups.proofs.sets.listed.Given as goal

abbrev pub invariant-loop-item : goal.invariant-loop-item
invariant-loop-item g l = l.list ++ l.item-iterator ≡ l.fn.set.keys
