use Rattle.std.proofs.Common.{rules, ◌≡◌, ◌<◌, sym, length, get_or, List}
use Rattle.fd_kinds.specs.declared.row.Numbered.{Numbered}
use Rattle.fd_scan.proofs.FilterLaws.{filter_all, matchers_more}
use Rattle.fd_scan.proofs.matchers.keep_all_matching.Goals as goal

pub loop-matcher-init : goal.loop-matcher-init
loop-matcher-init g c = sym (filter_all c.args.places.now.items)

pub loop-matcher-preserved : goal.loop-matcher-preserved
loop-matcher-preserved g c =
    let rows : List Numbered = g.C.Columns.rows c.args.columns.now in
    let within : c.loop-matcher.matcher-index < length c.args.matchers.now = search rules in
    let is : c.matcher-item.result ≡ get_or c.args.matchers.now c.loop-matcher.matcher-index c.matcher-item.result = search rules in
    matchers_more rows c.args.matchers.now c.loop-matcher.matcher-index c.matcher-item.result c.args.places.now.items c.loop-matcher.places.items c.keep_matching.new.places.items within is c.loop-matcher.invariant c.keep_matching.ensures
