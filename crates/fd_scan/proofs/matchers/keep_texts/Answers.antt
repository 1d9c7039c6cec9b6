use Rattle.std.proofs.Common.{rules, ◌≡◌, length}
use Rattle.std.specs.Prelude.{◌==◌}
use Rattle.fd_scan.proofs.FilterLaws.{texts_kept}
use Rattle.fd_scan.proofs.matchers.keep_texts.Goals as goal

pub returns : goal.returns
returns c =
    let empty : c.is_empty.result ≡ (length c.args.text.now == 0) = search rules in
    texts_kept c.args.cells.now c.args.op c.args.text.now c.entry_of-wanted.result c.is_empty.result c.args.places.now.items c.keep_entries.new.places.items c.entry_of-wanted.ensures empty c.keep_entries.ensures
