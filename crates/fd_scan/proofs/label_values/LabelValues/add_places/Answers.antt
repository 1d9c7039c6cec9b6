use Rattle.std.proofs.Common.{rules, ◌≡◌, ◌∙◌, ap, subst, sym, ℕ, List, ◌++◌, take, Some, None, slice_get}
use Rattle.std.proofs.lemmas.Result.{on_ok_weaker, on_err_weaker}
use Rattle.std.specs.Prelude.{flat_map, All, IfSome, IsUtf8}
use Rattle.fd_kinds.specs.declared.row.Numbered.{Numbered}
use Rattle.fd_kinds.specs.LabelMaps.{value_of}
use Rattle.fd_kinds.specs.Meaning.{distinct, values_at}
use Rattle.fd_lists.specs.Texts.{text_cmp}
use Rattle.fd_column.specs.Cells.{label, columns_of, column_texts}
use Rattle.fd_scan.specs.DistinctTexts.{texts_at}
use Rattle.fd_scan.proofs.LabelValueLaws.{values_more, values_none}
use Rattle.fd_scan.proofs.RowTexts.{label_text}
use Rattle.fd_dictionary.specs.Dictionaries.{cell_in}
use Rattle.fd_scan.proofs.label_values.LabelValues.add_places.Goals as goal

pub add_texts_at-requires : goal.add_texts_at-requires
add_texts_at-requires g c =
    let rows : List Numbered = g.C.Columns.rows c.args.columns.now in
    let name : List ℕ = c.args.self.now.name in
    let is : slice_get (columns_of rows) c.in-Some.column ≡ Some (label name) = search rules in
    let cells : c.text_column-cells.result.now ≡ column_texts rows c.in-Some.column = search rules in
    λ at. subst (λ cs. IfSome (cell_in cs at) IsUtf8) (sym cells) (label_text rows c.in-Some.column name c.utf8-2.ensures.texts is at)

pub returns-in-Some-clause-ok : goal.returns-in-Some-clause-ok
returns-in-Some-clause-ok g c =
    let rows : List Numbered = g.C.Columns.rows c.args.columns.now in
    let name : List ℕ = c.args.self.now.name in
    let is : slice_get (columns_of rows) c.in-Some.column ≡ Some (label name) = search rules in
    let cells : c.text_column-cells.result.now ≡ column_texts rows c.in-Some.column = search rules in
    on_ok_weaker c.add_texts_at.result
    (λ step before held.
    step (flat_map (values_at name) before) held
    ∙ ap (λ cs. distinct text_cmp (flat_map (values_at name) before ++ texts_at cs c.args.places.now)) cells
    ∙ values_more rows c.in-Some.column name before c.args.places.now is)
    c.add_texts_at.ensures.ok

pub returns-in-Some-clause-err : goal.returns-in-Some-clause-err
returns-in-Some-clause-err g c =
    let rows : List Numbered = g.C.Columns.rows c.args.columns.now in
    let name : List ℕ = c.args.self.now.name in
    let is : slice_get (columns_of rows) c.in-Some.column ≡ Some (label name) = search rules in
    let cells : c.text_column-cells.result.now ≡ column_texts rows c.in-Some.column = search rules in
    on_err_weaker c.add_texts_at.result
    (λ (k, step). (
      k,
      λ before held.
          step (flat_map (values_at name) before) held
          ∙ ap (λ cs. distinct text_cmp (flat_map (values_at name) before ++ texts_at cs (take k c.args.places.now))) cells
          ∙ values_more rows c.in-Some.column name before (take k c.args.places.now) is,
    ))
    c.add_texts_at.ensures.err

pub returns-in-None-clause-ok : goal.returns-in-None-clause-ok
returns-in-None-clause-ok g c =
    let rows : List Numbered = g.C.Columns.rows c.args.columns.now in
    let name : List ℕ = c.args.self.now.name in
    let none : All (λ n. value_of n.row.labels.pairs name ≡ None) rows = search rules in
    λ before held. held ∙ values_none rows name before c.args.places.now none
