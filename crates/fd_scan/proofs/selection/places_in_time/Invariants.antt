use Rattle.std.proofs.Common.{◌≡◌}
use Rattle.std.specs.Prelude.{filter}
use Rattle.std.specs.List.{range_with_len}
use Rattle.fd_scan.specs.RowPlaces.{row_at, is_in_time}
use Rattle.fd_scan.proofs.selection.places_in_time.Given as goal

abbrev pub invariant-loop-at : goal.invariant-loop-at
invariant-loop-at g l = l.places.items ≡ filter (λ at. is_in_time l.window l.delta (row_at (g.C.Columns.rows l.columns) at)) (range_with_len 0 l.at)
