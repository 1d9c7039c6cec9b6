use Rattle.std.proofs.Common.{◌∙◌}
use Rattle.std.specs.Arc.{arc_value}
use Rattle.fd_column.proofs.NumberLaws.{own}
use Rattle.fd_column.proofs.part.ColumnPart.of.Goals as goal

pub returns : goal.returns
returns c = own (arc_value c.in_ok-named-2.named) ∙ c.in_ok-named-2.ensures.ok ∙ c.in_ok-named.ensures
