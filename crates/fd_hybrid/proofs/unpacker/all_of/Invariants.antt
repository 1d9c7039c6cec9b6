use Rattle.std.proofs.Common.{◌≡◌, ℕ, ◌≤◌, ◌-◌, length}
use Rattle.fd_hybrid.specs.Unpacker.{with_front, runs_at}
use Rattle.fd_hybrid.specs.declared.runs.Before.TheVariants.{Nothing}
use Rattle.fd_hybrid.proofs.GroupLaws.{IsBytes}
use Rattle.fd_hybrid.proofs.unpacker.all_of.Given as goal

abbrev pub invariant-loop-rest : goal.invariant-loop-rest
invariant-loop-rest l = record {
  few : length l.values ≤ l.count;
  fit : IsBytes l.rest;
  so_far : (most : ℕ) × (length l.rest ≤ most)
      × (with_front l.values (runs_at most l.width (l.count - length l.values) l.before l.rest) ≡ runs_at (length l.bytes) l.width l.count Nothing l.bytes);
}

abbrev pub decreases-loop-rest : goal.decreases-loop-rest
decreases-loop-rest l = length l.rest
