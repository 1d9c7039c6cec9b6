use Rattle.std.proofs.Common.{◌≡◌, ◌+◌, get_or, drop}
use Rattle.fd_hybrid.specs.Runs.{as_many, equal_next}
use Rattle.fd_hybrid.proofs.stretch.equal_next_of.Given as goal

abbrev pub invariant-loop-k : goal.invariant-loop-k
invariant-loop-k l = l.k + as_many (get_or l.values 0 0) (drop l.k l.values) ≡ equal_next l.values
