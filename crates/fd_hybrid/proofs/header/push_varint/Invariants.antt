use Rattle.std.proofs.Common.{List, ℕ, ◌++◌}
use Rattle.fd_hybrid.specs.Format.{IsVarint, AddsVarint}
use Rattle.fd_hybrid.proofs.header.push_varint.Given as goal

-- whatever stands for the rest completes the number
abbrev pub invariant-loop-rest : goal.invariant-loop-rest
invariant-loop-rest l = (tail : List ℕ) → IsVarint tail l.rest → AddsVarint l.fn.out (l.out ++ tail) l.number

abbrev pub decreases-loop-rest : goal.decreases-loop-rest
decreases-loop-rest l = l.rest
