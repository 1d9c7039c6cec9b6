use Rattle.std.proofs.Common.{◌≡◌, ◌++◌, map}
use Rattle.fd_groups.proofs.RangeLaws.{to_range}
use Rattle.fd_groups.proofs.ranges.listed_ranges.Given as goal

abbrev pub invariant-loop-labels : goal.invariant-loop-labels
invariant-loop-labels l = l.list ++ map to_range l.labels-iterator ≡ map to_range l.fn.ranges.entries
