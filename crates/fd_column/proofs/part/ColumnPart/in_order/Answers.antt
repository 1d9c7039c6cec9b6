use Rattle.std.proofs.Common.{◌∙◌, ap}
use Rattle.fd_column.specs.RowNumbers.{renumbered}
use Rattle.fd_column.proofs.NumberLaws.{sorted_kept, numbers_kept}
use Rattle.fd_column.proofs.part.ColumnPart.in_order.Goals as goal

pub returns-clause-sorted : goal.returns-clause-sorted
returns-clause-sorted c = sorted_kept c.self.inside.given c.deref.result.now c.args.self.now (ap (λ rows. renumbered c.self.inside.given rows) c.deref.ensures ∙ c.self.view_is) c.in_order.ensures.sorted

pub returns-clause-numbers : goal.returns-clause-numbers
returns-clause-numbers c = numbers_kept c.self.inside.given c.deref.result.now c.args.self.now (ap (λ rows. renumbered c.self.inside.given rows) c.deref.ensures ∙ c.self.view_is) c.self.invariant c.in_order.ensures.numbers
