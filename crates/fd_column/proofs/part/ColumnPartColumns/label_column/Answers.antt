use Rattle.std.proofs.Common.{◌≡◌, ◌∙◌, ap, subst}
use Rattle.fd_column.specs.RowNumbers.{renumbered}
use Rattle.std.specs.Prelude.{Some, slice_get, IfSome}
use Rattle.fd_column.specs.Cells.{label}
use Rattle.fd_column.proofs.NumberLaws.{columns_kept, unlabelled_kept}
use Rattle.fd_column.proofs.part.ColumnPartColumns.label_column.Goals as goal

pub returns-clause-found : goal.returns-clause-found
returns-clause-found c =
    subst (λ columns. IfSome c.label_column.result (λ column. slice_get columns column ≡ Some (label c.args.name.now))) (columns_kept c.self.inside.given c.deref.result.now c.args.self.now (ap (λ rows. renumbered c.self.inside.given rows) c.deref.ensures ∙ c.self.view_is)) c.label_column.ensures.found

pub returns-clause-none : goal.returns-clause-none
returns-clause-none c = λ none. unlabelled_kept c.args.name.now c.self.inside.given c.deref.result.now c.args.self.now (ap (λ rows. renumbered c.self.inside.given rows) c.deref.ensures ∙ c.self.view_is) (c.label_column.ensures.none none)
