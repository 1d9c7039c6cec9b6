use Rattle.std.proofs.Common.{◌≡◌, List, subst}
use Rattle.std.specs.Prelude.{Decides}
use Rattle.fd_kinds.specs.declared.row.Numbered.{Numbered}
use Rattle.fd_dictionary.specs.Dictionaries.{cell_in}
use Rattle.fd_column.specs.Cells.{column_texts}
use Rattle.fd_scan.proofs.CellValues.{names_decided}
use Rattle.fd_scan.proofs.cells.has_same_name.Goals as goal

pub returns-clause-decided : goal.returns-clause-decided
returns-clause-decided g c =
    let rows : List Numbered = g.C.Columns.rows c.args.columns.now in
    let decides : Decides c.is_same.result (cell_in (column_texts rows 1) c.args.a ≡ cell_in (column_texts rows 1) c.args.b) =
    subst (λ cells. Decides c.is_same.result (cell_in cells c.args.a ≡ cell_in cells c.args.b)) c.text_column.ensures c.is_same.ensures in
    names_decided rows c.args.a c.args.b c.is_same.result decides
