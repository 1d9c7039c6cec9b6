use Rattle.std.proofs.Common.{◌≡◌, ◌∙◌, sym, rules}
use Rattle.std.specs.Prelude.{None}
use Rattle.fd_column.specs.Cells.{cell_at, whole_in}
use Rattle.fd_column.specs.Tables.{row_at, rows_of_table}
use Rattle.fd_column.proofs.TableLaws.{row_there}
use Rattle.fd_column.proofs.CellLaws.{number_there, numbers_small, no_whole}
use Rattle.fd_column.proofs.cells.whole_of_table.Goals as goal

pub batch_cell-requires : goal.batch_cell-requires
batch_cell-requires c =
    numbers_small c.args.table.now.numbers (rows_of_table c.args.table.now) c.requires.growing.table.numbers c.requires.growing.held.numbers

pub returns-in-0 : goal.returns-in-0
returns-in-0 c =
    let t = c.args.table.now in
    c.batch_cell.ensures ∙ number_there t.numbers (rows_of_table t) c.args.column c.args.at (row_at t c.args.at) c.requires.growing.table.numbers (row_there t c.args.at c.requires.inside) c.in-0.is

pub returns-in_default : goal.returns-in_default
returns-in_default c =
    let none : whole_in (cell_at (rows_of_table c.args.table.now) c.args.column c.args.at) ≡ None = no_whole (rows_of_table c.args.table.now) c.args.column c.args.at (search rules) (search rules) (search rules) (search rules) (search rules) in
    sym none
