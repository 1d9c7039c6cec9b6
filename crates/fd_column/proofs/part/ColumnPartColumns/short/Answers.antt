use Rattle.std.proofs.Common.{◌∙◌, ap}
use Rattle.fd_column.specs.RowNumbers.{renumbered}
use Rattle.fd_column.proofs.NumberLaws.{short_kept}
use Rattle.fd_column.proofs.part.ColumnPartColumns.short.Goals as goal

pub returns : goal.returns
returns c = short_kept c.self.inside.given c.deref.result.now c.args.self.now (ap (λ rows. renumbered c.self.inside.given rows) c.deref.ensures ∙ c.self.view_is) c.short.ensures
