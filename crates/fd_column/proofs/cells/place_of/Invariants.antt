use Rattle.std.proofs.Common.{◌≡◌, ◌+◌, drop}
use Rattle.std.specs.Prelude.{option_map}
use Rattle.fd_column.specs.LabelColumns.{place_of}
use Rattle.fd_column.proofs.cells.place_of.Given as goal

abbrev pub invariant-loop-place : goal.invariant-loop-place
invariant-loop-place l =
    option_map (λ p. l.place + p) (place_of l.name (drop l.place l.columns)) ≡ place_of l.name l.columns
