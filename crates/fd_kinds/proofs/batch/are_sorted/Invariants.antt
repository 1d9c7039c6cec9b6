use Rattle.std.proofs.Common.{◌≡◌, length}
use Rattle.fd_kinds.specs.Sortedness.{are_sorted}
use Rattle.fd_kinds.proofs.batch.are_sorted.Given as goal

abbrev pub decreases-loop-first : goal.decreases-loop-first
decreases-loop-first l = length l.rest

abbrev pub invariant-loop-first : goal.invariant-loop-first
invariant-loop-first l = are_sorted l.rest ≡ are_sorted l.fn.rows
