use Rattle.std.proofs.Common.{◌∙◌, ap}
use Rattle.std.specs.Arc.{arc_value}
use Rattle.fd_column.specs.RowNumbers.{renumbered}
use Rattle.fd_column.proofs.NumberLaws.{numbered_is}
use Rattle.fd_column.proofs.part.ColumnPart.numbered.Goals as goal

pub returns : goal.returns
returns c =
    numbered_is c.self.inside.given c.args.number (arc_value c.in_ok-table.table) c.args.self.now
    (ap (λ rows. renumbered c.self.inside.given rows) c.in_ok-table.ensures.cases ∙ c.self.view_is)
