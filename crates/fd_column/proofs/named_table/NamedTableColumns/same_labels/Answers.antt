use Rattle.std.proofs.Common.{◌≡◌, ◌<◌, length, sym, subst}
use Rattle.std.specs.Prelude.{All, Decides}
use Rattle.fd_column.specs.declared.table.LabelColumn.{LabelColumn}
use Rattle.fd_dictionary.specs.Dictionaries.{Cells, cell_in}
use Rattle.fd_column.specs.Cells.{labels_in}
use Rattle.fd_column.specs.Tables.{row_at, rows_of_table}
use Rattle.fd_column.proofs.EqualLabels.{same_cells}
use Rattle.fd_column.proofs.TableLaws.{row_there}
use Rattle.fd_column.proofs.named_table.NamedTableColumns.same_labels.Goals as goal

pub returns : goal.returns
returns c =
    let t = c.self.inside.table in
    let first : c.args.a < length (rows_of_table t) = subst (λ rows. c.args.a < length rows) (sym c.self.view_is) c.requires.first in
    let second : c.args.b < length (rows_of_table t) = subst (λ rows. c.args.b < length rows) (sym c.self.view_is) c.requires.second in
    subst (λ rows. Decides c.have_same_cells.result (labels_in rows c.args.a ≡ labels_in rows c.args.b)) c.self.view_is
    (same_cells t (rows_of_table t) c.args.a c.args.b (row_at t c.args.a) (row_at t c.args.b) c.have_same_cells.result c.self.invariant.table (row_there t c.args.a first) (row_there t c.args.b second)
    (subst (λ columns. Decides c.have_same_cells.result (All (λ (x : LabelColumn Cells). cell_in x.cells c.args.a ≡ cell_in x.cells c.args.b) columns)) c.as_slice.ensures c.have_same_cells.ensures))
