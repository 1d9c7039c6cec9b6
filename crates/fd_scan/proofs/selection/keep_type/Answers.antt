use Rattle.fd_scan.proofs.FilterLaws.{type_kept}
use Rattle.fd_scan.proofs.selection.keep_type.Goals as goal

pub returns : goal.returns
returns g c =
    type_kept (g.C.Columns.rows c.args.columns.now) c.args.kind.now c.args.places.now.items
    c.keep_equal.new.places.items c.keep_equal-2.new.places.items c.keep_equal-3.new.places.items c.keep_equal-4.new.places.items c.keep_equal-5.new.places.items
    c.keep_equal.ensures c.keep_equal-2.ensures c.keep_equal-3.ensures c.keep_equal-4.ensures c.keep_equal-5.ensures
