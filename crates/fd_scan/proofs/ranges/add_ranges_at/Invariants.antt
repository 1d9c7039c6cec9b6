use Rattle.std.proofs.Common.{List, ◌++◌, take}
use Rattle.std.specs.Prelude.{IfSome}
use Rattle.fd_kinds.specs.declared.row.Row.{Row}
use Rattle.fd_groups.specs.Groups.{AreRanges}
use Rattle.fd_scan.specs.LabelledPlaces.{IsLabelled}
use Rattle.fd_scan.specs.RowPlaces.{rows_at}
use Rattle.fd_scan.proofs.ranges.add_ranges_at.Given as goal

abbrev pub invariant-loop-at : goal.invariant-loop-at
invariant-loop-at g l =
    IfSome l.last (IsLabelled (g.C.Columns.rows l.columns))
    × ((rows : List Row) → AreRanges l.initial.ranges rows → AreRanges l.ranges (rows ++ rows_at (g.C.Columns.rows l.columns) (take l.at-index l.places)))
