use Rattle.std.proofs.Common.{rules, ◌≡◌, List, Some}
use Rattle.std.specs.Prelude.{filter, slice_get, bytes_eq, All, [], None}
use Rattle.fd_kinds.specs.declared.row.Numbered.{Numbered}
use Rattle.fd_kinds.specs.LabelMaps.{value_of}
use Rattle.fd_kinds.specs.Meaning.{agrees}
use Rattle.fd_column.specs.Cells.{columns_of, label, column_texts}
use Rattle.fd_scan.specs.RowPlaces.{has_text}
use Rattle.fd_scan.proofs.FilterLaws.{labels_kept, labels_absent}
use Rattle.fd_scan.proofs.matchers.keep_labels.Goals as goal

pub returns-in-Some : goal.returns-in-Some
returns-in-Some g c =
    let rows : List Numbered = g.C.Columns.rows c.args.columns.now in
    let there : slice_get (columns_of rows) c.in-Some.column ≡ Some (label c.args.matcher.now.name) = search rules in
    let is : c.keep_texts.new.places.items ≡ filter (λ at. agrees c.args.matcher.now.op (has_text (column_texts rows c.in-Some.column) c.args.matcher.now.value at)) c.args.places.now.items = search rules in
    labels_kept rows c.in-Some.column c.args.matcher.now.name c.args.matcher.now.value c.args.matcher.now.op c.args.places.now.items c.keep_texts.new.places.items there is

pub returns-in-None : goal.returns-in-None
returns-in-None g c =
    let rows : List Numbered = g.C.Columns.rows c.args.columns.now in
    let none : All (λ n. value_of n.row.labels.pairs c.args.matcher.now.name ≡ None) rows = search rules in
    let is : c.keep_absent.new.places.items ≡ filter (λ at. agrees c.args.matcher.now.op (bytes_eq [] c.args.matcher.now.value)) c.args.places.now.items = search rules in
    labels_absent rows c.args.matcher.now.name c.args.matcher.now.value c.args.matcher.now.op c.args.places.now.items c.keep_absent.new.places.items none is
