use Rattle.std.proofs.Common.{◌≡◌, ◌++◌, map}
use Rattle.fd_groups.proofs.SumLaws.{to_point}
use Rattle.fd_groups.proofs.ranges.listed_points.Given as goal

abbrev pub invariant-loop-timestamp : goal.invariant-loop-timestamp
invariant-loop-timestamp l = l.list ++ map to_point l.timestamp-iterator ≡ map to_point l.fn.points.entries
