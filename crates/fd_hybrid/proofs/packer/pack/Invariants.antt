use Rattle.std.proofs.Common.{ℕ, List, ◌++◌, length}
use Rattle.fd_hybrid.specs.Format.{IsSpelling, Fit}
use Rattle.fd_hybrid.proofs.packer.pack.Given as goal

-- whatever spells the rest completes the spelling
abbrev pub invariant-loop-rest : goal.invariant-loop-rest
invariant-loop-rest l = record {
  fit : Fit l.width l.rest;
  so_far : (tail : List ℕ) → IsSpelling l.width l.rest tail → IsSpelling l.width l.values (l.out ++ tail);
}

abbrev pub decreases-loop-rest : goal.decreases-loop-rest
decreases-loop-rest l = length l.rest
