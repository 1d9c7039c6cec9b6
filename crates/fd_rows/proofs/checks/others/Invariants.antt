use Rattle.std.proofs.Common.{◌≡◌, ◌++◌, drop, not, filter}
use Rattle.fd_rows.specs.Labels.{is_name}
use Rattle.fd_rows.proofs.checks.others.Given as goal

abbrev pub invariant-loop-pair : goal.invariant-loop-pair
invariant-loop-pair l = l.kept ++ filter (λ p. not (is_name p)) (drop l.pair-index l.pairs) ≡ filter (λ p. not (is_name p)) l.pairs
