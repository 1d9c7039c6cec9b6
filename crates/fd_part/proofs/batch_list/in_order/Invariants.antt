use Rattle.std.proofs.Common.{◌≡◌, ◌++◌, map}
use Rattle.fd_part.specs.Batches.{entry_of, ordered}
use Rattle.fd_part.proofs.batch_list.in_order.Given as goal

abbrev pub invariant-loop-number : goal.invariant-loop-number
invariant-loop-number l = map entry_of l.batches ++ map ordered l.number-iterator ≡ map ordered l.fn.map.entries
