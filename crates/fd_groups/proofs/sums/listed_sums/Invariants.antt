use Rattle.std.proofs.Common.{◌≡◌, ◌++◌, map}
use Rattle.fd_groups.proofs.SlotLaws.{to_sum}
use Rattle.fd_groups.proofs.sums.listed_sums.Given as goal

abbrev pub invariant-loop-stack : goal.invariant-loop-stack
invariant-loop-stack l = l.list ++ map (to_sum l.sums) l.stack-iterator ≡ map (to_sum l.sums) l.fn.slots.entries
