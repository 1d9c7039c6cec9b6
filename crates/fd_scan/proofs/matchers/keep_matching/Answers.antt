use Rattle.std.proofs.Common.{rules, ◌≡◌, List, true, codes, bytes_eq}
use Rattle.std.specs.Prelude.{filter}
use Rattle.fd_kinds.specs.declared.row.Numbered.{Numbered}
use Rattle.fd_kinds.specs.Meaning.{agrees}
use Rattle.fd_column.specs.Cells.{column_texts}
use Rattle.fd_scan.specs.RowPlaces.{has_text}
use Rattle.fd_scan.proofs.FilterLaws.{names_kept}
use Rattle.fd_scan.proofs.matchers.keep_matching.Goals as goal

pub returns-then-eq : goal.returns-then-eq
returns-then-eq g c =
    let rows : List Numbered = g.C.Columns.rows c.args.columns.now in
    let named : bytes_eq c.args.matcher.now.name (codes "__name__") ≡ true = search rules in
    let is : c.keep_texts.new.places.items ≡ filter (λ at. agrees c.args.matcher.now.op (has_text (column_texts rows 1) c.args.matcher.now.value at)) c.args.places.now.items = search rules in
    names_kept rows c.args.matcher.now c.args.places.now.items c.keep_texts.new.places.items named is
