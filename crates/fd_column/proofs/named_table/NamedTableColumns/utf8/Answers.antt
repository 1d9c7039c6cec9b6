use Rattle.std.proofs.Common.{◌∙◌, ap, subst}
use Rattle.std.specs.Prelude.{All, IsUtf8}
use Rattle.fd_column.specs.Cells.{column_names}
use Rattle.fd_column.specs.Texts.{AreTexts}
use Rattle.fd_column.proofs.named_table.NamedTableColumns.utf8.Goals as goal

pub returns-clause-texts : goal.returns-clause-texts
returns-clause-texts c = subst AreTexts c.self.view_is c.self.invariant.held.texts

pub returns-clause-names : goal.returns-clause-names
returns-clause-names c = subst (All IsUtf8) (c.as_slice.ensures ∙ c.self.invariant.names ∙ ap column_names c.self.view_is) c.texts_are_utf8.ensures
