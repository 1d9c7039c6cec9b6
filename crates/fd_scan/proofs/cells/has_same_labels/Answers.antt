use Rattle.fd_scan.proofs.CellValues.{same_labels}
use Rattle.fd_scan.proofs.cells.has_same_labels.Goals as goal

pub returns : goal.returns
returns g c =
    same_labels (g.C.Columns.rows c.args.columns.now) c.args.a c.args.b c.same_labels.result c.requires.first c.requires.second c.same_labels.ensures
