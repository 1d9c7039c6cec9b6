use Rattle.std.proofs.Common.{rules, ◌≡◌, length}
use Rattle.std.specs.Prelude.{◌==◌}
use Rattle.fd_kinds.specs.Meaning.{agrees}
use Rattle.fd_scan.proofs.FilterLaws.{absent_kept}
use Rattle.fd_scan.proofs.matchers.keep_absent.Goals as goal

pub returns : goal.returns
returns c =
    let agree : c.agrees.result ≡ agrees c.args.op (length c.args.text.now == 0) = search rules in
    absent_kept c.args.op c.args.text.now c.agrees.result c.args.places.now.items c.keep_where.new.places.items agree c.keep_where.ensures
