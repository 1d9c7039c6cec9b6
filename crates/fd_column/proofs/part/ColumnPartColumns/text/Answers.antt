use Rattle.std.proofs.Common.{◌∙◌, ap, sym, subst, map, length}
use Rattle.fd_column.specs.RowNumbers.{renumbered}
use Rattle.std.proofs.Common.{◌<◌}
use Rattle.fd_column.specs.Cells.{column_name}
use Rattle.fd_column.proofs.NumberLaws.{columns_kept, text_kept}
use Rattle.fd_column.proofs.part.ColumnPartColumns.text.Goals as goal

pub text-requires-clause-column : goal.text-requires-clause-column
text-requires-clause-column c =
    subst (λ columns. c.args.column < length (map column_name columns)) (sym (columns_kept c.self.inside.given c.deref.result.now c.args.self.now (ap (λ rows. renumbered c.self.inside.given rows) c.deref.ensures ∙ c.self.view_is))) c.requires.column

pub returns : goal.returns
returns c = c.text.ensures ∙ text_kept c.self.inside.given c.deref.result.now c.args.self.now c.args.column c.args.at (ap (λ rows. renumbered c.self.inside.given rows) c.deref.ensures ∙ c.self.view_is)
