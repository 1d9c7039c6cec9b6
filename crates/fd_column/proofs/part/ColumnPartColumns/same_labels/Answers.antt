use Rattle.std.proofs.Common.{◌∙◌, ap}
use Rattle.fd_column.specs.RowNumbers.{renumbered}
use Rattle.fd_column.proofs.EqualLabels.{same_labels_kept}
use Rattle.fd_column.proofs.part.ColumnPartColumns.same_labels.Goals as goal

pub returns : goal.returns
returns c = same_labels_kept c.self.inside.given c.deref.result.now c.args.self.now c.args.a c.args.b c.same_labels.result (ap (λ rows. renumbered c.self.inside.given rows) c.deref.ensures ∙ c.self.view_is) c.same_labels.ensures
