use Rattle.std.proofs.Common.{◌∙◌, ap, map, subst}
use Rattle.std.specs.Prelude.{All, IsUtf8}
use Rattle.fd_column.specs.RowNumbers.{renumbered}
use Rattle.fd_column.specs.Cells.{column_name}
use Rattle.fd_column.proofs.NumberLaws.{columns_kept, utf8_kept}
use Rattle.fd_column.proofs.part.ColumnPartColumns.utf8.Goals as goal

pub returns-clause-texts : goal.returns-clause-texts
returns-clause-texts c = utf8_kept c.self.inside.given c.deref.result.now c.args.self.now (ap (λ rows. renumbered c.self.inside.given rows) c.deref.ensures ∙ c.self.view_is) c.utf8-2.ensures.texts

pub returns-clause-names : goal.returns-clause-names
returns-clause-names c = subst (All IsUtf8) (ap (map column_name) (columns_kept c.self.inside.given c.deref.result.now c.args.self.now (ap (λ rows. renumbered c.self.inside.given rows) c.deref.ensures ∙ c.self.view_is))) c.utf8-2.ensures.names
