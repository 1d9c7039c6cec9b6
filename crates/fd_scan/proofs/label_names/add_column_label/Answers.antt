use Rattle.std.proofs.Common.{rules, ◌≡◌, ◌∙◌, ap, List, Some, ◌++◌}
use Rattle.std.proofs.lemmas.Result.{on_ok_weaker}
use Rattle.fd_kinds.specs.declared.row.Numbered.{Numbered}
use Rattle.fd_kinds.specs.Meaning.{distinct}
use Rattle.fd_lists.specs.Texts.{text_cmp}
use Rattle.fd_column.specs.Cells.{column_names, column_texts}
use Rattle.fd_scan.specs.LabelNames.{label_at, where_there}
use Rattle.fd_scan.proofs.LabelNameLaws.{cells_found}
use Rattle.fd_scan.proofs.RowTexts.{label_name_text}
use Rattle.fd_scan.proofs.label_names.add_column_label.Goals as goal

pub add_where_there-requires : goal.add_where_there-requires
add_where_there-requires g c =
    let rows : List Numbered = g.C.Columns.rows c.args.columns.now in
    let is : label_at (column_names rows) c.args.column ≡ Some c.in-Some.name.now = search rules in
    label_name_text rows c.args.column c.in-Some.name.now c.utf8-2.ensures.names is

pub returns-in-Some-clause-ok : goal.returns-in-Some-clause-ok
returns-in-Some-clause-ok g c =
    let rows : List Numbered = g.C.Columns.rows c.args.columns.now in
    let is : label_at (column_names rows) c.args.column ≡ Some c.in-Some.name.now = search rules in
    let cells : c.text_column-cells.result.now ≡ column_texts rows c.args.column = search rules in
    on_ok_weaker c.add_where_there.result
    (λ step items held.
    step items held
    ∙ ap (λ cs. distinct text_cmp (items ++ where_there cs c.args.places.now c.in-Some.name.now)) cells
    ∙ ap (λ l. distinct text_cmp (items ++ l)) (cells_found rows c.args.places.now c.args.column c.in-Some.name.now is))
    c.add_where_there.ensures.ok
