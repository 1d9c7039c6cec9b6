use Rattle.std.proofs.Common.{rules, sym}
use Rattle.std.proofs.lemmas.Result.{on_ok_weaker}
use Rattle.fd_kinds.specs.declared.row.Row.{Row}
use Rattle.fd_scan.specs.RowPlaces.{row_at}
use Rattle.fd_scan.proofs.ranges.add_labelled.Goals as goal

pub returns-clause-ok : goal.returns-clause-ok
returns-clause-ok g c =
    let row : Row = row_at (g.C.Columns.rows c.args.columns.now) c.args.place.now.at in
    on_ok_weaker c.add_to_range.result (λ step rows before. step rows row (sym c.requires.labels) (search rules) (search rules) before) c.add_to_range.ensures.ok
