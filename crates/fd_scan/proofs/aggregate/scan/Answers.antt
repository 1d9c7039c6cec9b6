use Rattle.std.proofs.Common.{rules, ◌≡◌, List}
use Rattle.std.proofs.lemmas.Result.{on_ok_weaker, on_err_weaker}
use Rattle.fd_kinds.specs.declared.row.Numbered.{Numbered}
use Rattle.fd_scan.proofs.PlaceLaws.{counting, gathered_all, gathered_first, places_inside}
use Rattle.fd_scan.proofs.aggregate.scan.Goals as goal

pub add_places-requires : goal.add_places-requires
add_places-requires g c =
    let rows : List Numbered = g.C.Columns.rows c.args.columns.now in
    let are : c.as_slice.result.now ≡ counting c.args.query.now rows = search rules in
    places_inside c.args.query.now rows c.as_slice.result.now are

pub returns-clause-ok : goal.returns-clause-ok
returns-clause-ok g c =
    let rows : List Numbered = g.C.Columns.rows c.args.columns.now in
    let are : c.as_slice.result.now ≡ counting c.args.query.now rows = search rules in
    on_ok_weaker c.add_places.result
    (λ step before held. gathered_all c.args.query.now rows c.as_slice.result.now c.args.gathered.now _ are step before held)
    c.add_places.ensures.ok

pub returns-clause-err : goal.returns-clause-err
returns-clause-err g c =
    let rows : List Numbered = g.C.Columns.rows c.args.columns.now in
    let are : c.as_slice.result.now ≡ counting c.args.query.now rows = search rules in
    on_err_weaker c.add_places.result
    (λ step. gathered_first c.args.query.now rows c.as_slice.result.now c.args.gathered.now _ are step)
    c.add_places.ensures.err
