use Rattle.std.proofs.Common.{List, ◌++◌, ◌<◌, length, take, map}
use Rattle.std.specs.Prelude.{None, IfSome}
use Rattle.fd_kinds.specs.declared.row.Row.{Row}
use Rattle.fd_kinds.specs.Meaning.{series_of, series_cmp}
use Rattle.fd_scan.specs.RowPlaces.{rows_at}
use Rattle.fd_groups.specs.DistinctItems.{AreDistinct}
use Rattle.fd_scan.specs.LastSeries.{last_series}
use Rattle.fd_scan.proofs.series.add_series_at.Given as goal

abbrev pub invariant-loop-at : goal.invariant-loop-at
invariant-loop-at g l =
    IfSome l.last (λ place. place < length (g.C.Columns.rows l.columns))
    × ((rows : List Row) → AreDistinct series_cmp l.initial.found.keys None (map series_of rows) → AreDistinct series_cmp l.found.keys (last_series (g.C.Columns.rows l.columns) l.last) (map series_of (rows ++ rows_at (g.C.Columns.rows l.columns) (take l.at-index l.places))))
