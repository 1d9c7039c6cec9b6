use Rattle.std.proofs.Common.{List, ◌++◌, take}
use Rattle.fd_kinds.specs.declared.row.Row.{Row}
use Rattle.fd_groups.specs.Groups.{AreSums}
use Rattle.fd_scan.specs.StackSlots.{KnowsSlots}
use Rattle.fd_scan.specs.RowPlaces.{rows_at}
use Rattle.fd_scan.proofs.stacks.add_sums.Given as goal

abbrev pub invariant-loop-at : goal.invariant-loop-at
invariant-loop-at g l = record {
  known : KnowsSlots (g.C.Columns.rows l.columns) l.sums.slots l.known.items;
  held : (rows : List Row) → AreSums l.initial.sums.slots l.initial.sums.sums.items l.initial.sums.total rows → AreSums l.sums.slots l.sums.sums.items l.sums.total (rows ++ rows_at (g.C.Columns.rows l.columns) (take l.at-index l.places));
}
