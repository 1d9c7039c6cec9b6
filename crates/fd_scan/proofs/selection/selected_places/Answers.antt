use Rattle.std.proofs.Common.{List}
use Rattle.fd_kinds.specs.declared.row.Numbered.{Numbered}
use Rattle.fd_scan.specs.RowPlaces.{places_of}
use Rattle.fd_scan.proofs.FilterLaws.{selector_kept}
use Rattle.fd_scan.proofs.selection.selected_places.Goals as goal

pub returns : goal.returns
returns g c =
    let rows : List Numbered = g.C.Columns.rows c.args.columns.now in
    selector_kept rows c.args.window.now c.args.selector.now (places_of rows) c.in_ok-places.places.items c.keep_type.new.places.items c.keep_all_matching.new.places.items c.in_ok-places.ensures c.keep_type.ensures c.keep_all_matching.ensures
