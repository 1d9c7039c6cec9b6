use Rattle.std.proofs.Common.{◌∙◌, ap, map}
use Rattle.fd_column.specs.RowNumbers.{renumbered}
use Rattle.fd_column.specs.Cells.{column_name}
use Rattle.fd_column.proofs.NumberLaws.{columns_kept}
use Rattle.fd_column.proofs.part.ColumnPartColumns.names.Goals as goal

pub returns : goal.returns
returns c = c.names.ensures ∙ ap (map column_name) (columns_kept c.self.inside.given c.deref.result.now c.args.self.now (ap (λ rows. renumbered c.self.inside.given rows) c.deref.ensures ∙ c.self.view_is))
