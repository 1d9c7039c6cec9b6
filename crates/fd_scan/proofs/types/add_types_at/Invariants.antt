use Rattle.std.proofs.Common.{List, ◌++◌, take, map}
use Rattle.fd_kinds.specs.declared.row.Row.{Row}
use Rattle.fd_kinds.specs.Meaning.{type_of, type_cmp}
use Rattle.fd_scan.specs.RowPlaces.{rows_at}
use Rattle.fd_groups.specs.DistinctItems.{AreDistinct}
use Rattle.fd_scan.proofs.types.add_types_at.Given as goal

abbrev pub invariant-loop-at : goal.invariant-loop-at
invariant-loop-at g l = (rows : List Row) → AreDistinct type_cmp l.initial.types.found.keys l.initial.types.last (map type_of rows) → AreDistinct type_cmp l.types.found.keys l.types.last (map type_of (rows ++ rows_at (g.C.Columns.rows l.columns) (take l.at-index l.places)))
