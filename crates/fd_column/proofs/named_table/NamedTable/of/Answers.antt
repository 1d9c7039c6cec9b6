use Rattle.std.proofs.Common.{◌∙◌}
use Rattle.fd_column.specs.Tables.{rows_of_table}
use Rattle.fd_column.proofs.ColumnNames.{names_are}
use Rattle.fd_column.proofs.named_table.NamedTable.of.Goals as goal

pub invariant_of-result : goal.invariant_of-result
invariant_of-result c = record {
  names = c.in_ok-names_of.ensures ∙ names_are c.args.table (rows_of_table c.args.table) c.requires.growing.table;
  table = c.requires.growing.table;
  held = c.requires.growing.held;
  sorted = c.requires.sorted;
}
