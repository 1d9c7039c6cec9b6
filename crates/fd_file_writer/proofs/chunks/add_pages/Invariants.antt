use Rattle.std.proofs.Common.{◌≤◌, ◌-◌}
use Rattle.fd_table_file.specs.Columns.{column_at}
use Rattle.fd_table_file.specs.Chunks.{Continues}
use Rattle.fd_file_writer.proofs.chunks.add_pages.Given as goal

abbrev pub decreases-loop-from : goal.decreases-loop-from
decreases-loop-from l = l.count - l.from

abbrev pub invariant-loop-from : goal.invariant-loop-from
invariant-loop-from l = record {
  within : l.from ≤ l.count;
  so_far : Continues l.table (column_at l.table l.column) l.from l.fn.out l.out;
}
