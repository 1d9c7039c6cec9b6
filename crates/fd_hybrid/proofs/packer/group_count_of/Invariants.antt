use Rattle.std.proofs.Common.{◌≡◌, ◌+◌, ◌-◌, ◌≤◌, length}
use Rattle.fd_hybrid.specs.Packer.{group_count}
use Rattle.fd_hybrid.proofs.packer.group_count_of.Given as goal

abbrev pub invariant-loop-rest : goal.invariant-loop-rest
invariant-loop-rest l = record {
  within : l.groups + length l.rest ≤ length l.values;
  so_far : l.groups + group_count (length l.values - l.groups) l.rest ≡ group_count (length l.values) l.values;
}

abbrev pub decreases-loop-rest : goal.decreases-loop-rest
decreases-loop-rest l = length l.rest
