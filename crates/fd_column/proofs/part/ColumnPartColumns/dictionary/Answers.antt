use Rattle.std.proofs.Common.{◌≡◌, ◌∙◌, ap, subst}
use Rattle.fd_column.specs.RowNumbers.{renumbered}
use Rattle.std.specs.Prelude.{slice_get, IfSome}
use Rattle.fd_column.specs.Cells.{has_texts}
use Rattle.fd_column.proofs.NumberLaws.{columns_kept, texts_kept}
use Rattle.fd_column.proofs.part.ColumnPartColumns.dictionary.Goals as goal

pub returns-clause-kind : goal.returns-clause-kind
returns-clause-kind c =
    c.dictionary.ensures.kind
    ∙ ap (λ columns. has_texts (slice_get columns c.args.column)) (columns_kept c.self.inside.given c.deref.result.now c.args.self.now (ap (λ rows. renumbered c.self.inside.given rows) c.deref.ensures ∙ c.self.view_is))

pub returns-clause-cells : goal.returns-clause-cells
returns-clause-cells c =
    subst (λ texts. IfSome c.dictionary.result (λ dictionary. dictionary.now ≡ texts)) (texts_kept c.self.inside.given c.deref.result.now c.args.self.now c.args.column (ap (λ rows. renumbered c.self.inside.given rows) c.deref.ensures ∙ c.self.view_is)) c.dictionary.ensures.cells
