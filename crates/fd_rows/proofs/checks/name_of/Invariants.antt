use Rattle.std.proofs.Common.{◌≡◌, drop}
use Rattle.fd_rows.specs.Labels.{series_name}
use Rattle.fd_rows.proofs.checks.name_of.Given as goal

abbrev pub invariant-loop-pair : goal.invariant-loop-pair
invariant-loop-pair l = series_name (drop l.pair-index l.pairs) ≡ series_name l.pairs
