use Rattle.std.proofs.Common.{w64, ◌∙◌, ◌<◌, ap, sym, subst, map, length}
use Rattle.std.proofs.lemmas.Int.{to_z_pos}
use Rattle.std.specs.Prelude.{Some}
use Rattle.std.specs.Arc.{arc_value}
use Rattle.fd_column.specs.Cells.{column_name}
use Rattle.fd_column.specs.RowNumbers.{renumbered, IsGiven}
use Rattle.fd_column.proofs.NumberLaws.{columns_kept, whole_kept, whole_given, whole_own}
use Rattle.fd_column.proofs.part.ColumnPartColumns.whole.Goals as goal

pub whole-requires-clause-column : goal.whole-requires-clause-column
whole-requires-clause-column c =
    subst (λ columns. c.args.column < length (map column_name columns))
    (sym (columns_kept c.self.inside.given c.deref.result.now c.args.self.now (ap (λ rows. renumbered c.self.inside.given rows) c.deref.ensures ∙ c.self.view_is)))
    c.requires.column

pub whole-requires-else-column-eq0-clause-column : goal.whole-requires-else-column-eq0-clause-column
whole-requires-else-column-eq0-clause-column c =
    subst (λ columns. c.args.column < length (map column_name columns))
    (sym (columns_kept c.self.inside.given c.deref-else-column-eq0.result.now c.args.self.now (ap (λ rows. renumbered c.self.inside.given rows) c.deref-else-column-eq0.ensures ∙ c.self.view_is)))
    c.requires.column

pub returns-in-None : goal.returns-in-None
returns-in-None c =
    c.whole.ensures
    ∙ whole_own c.deref.result.now c.args.self.now c.args.column c.args.at
    (ap (λ given. renumbered given c.deref.result.now) (sym c.in-None.is) ∙ ap (λ rows. renumbered c.self.inside.given rows) c.deref.ensures ∙ c.self.view_is)

pub returns-then-column-eq0 : goal.returns-then-column-eq0
returns-then-column-eq0 c =
    ap (λ n. Some n) (to_z_pos w64 c.in-Some.number (subst (λ given. IsGiven given) c.in-Some.is c.self.invariant))
    ∙ whole_given c.in-Some.number (arc_value c.self.inside.table) c.args.self.now c.args.column c.args.at
    (ap (λ given. renumbered given (arc_value c.self.inside.table)) (sym c.in-Some.is) ∙ c.self.view_is)
    c.if-column-eq0.true
    c.requires.at

pub returns-else-column-eq0 : goal.returns-else-column-eq0
returns-else-column-eq0 c =
    c.whole-else-column-eq0.ensures
    ∙ whole_kept c.self.inside.given c.deref-else-column-eq0.result.now c.args.self.now c.args.column c.args.at
    (ap (λ rows. renumbered c.self.inside.given rows) c.deref-else-column-eq0.ensures ∙ c.self.view_is)
    c.if-column-eq0.false
