use Rattle.std.proofs.Common.{◌≡◌, length}
use Rattle.fd_kinds.specs.Labels.{are_labels}
use Rattle.fd_kinds.proofs.labels.are_in_order.Given as goal

abbrev pub decreases-loop-first : goal.decreases-loop-first
decreases-loop-first l = length l.rest

abbrev pub invariant-loop-first : goal.invariant-loop-first
invariant-loop-first l = are_labels l.rest ≡ are_labels l.fn.pairs
