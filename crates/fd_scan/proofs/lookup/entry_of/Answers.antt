use Rattle.std.proofs.Common.{◌<◌, length, arith, sym}
use Rattle.fd_dictionary.specs.Dictionaries.{entries_of}
use Rattle.fd_scan.proofs.LookupLaws.{pick_more, pick_found}
use Rattle.fd_scan.proofs.lookup.entry_of.Goals as goal

pub returns-then-is_entry_at : goal.returns-then-is_entry_at
returns-then-is_entry_at c =
    sym (pick_found (entries_of c.args.cells.now) c.loop-at.at c.args.text.now (c.is_entry_at.ensures.yes c.if-is_entry_at.true) c.loop-at.invariant)

pub loop-at-preserved : goal.loop-at-preserved
loop-at-preserved c =
    let within : c.loop-at.at < length (entries_of c.args.cells.now) = omega arith in
    pick_more (entries_of c.args.cells.now) c.loop-at.at c.args.text.now within (c.is_entry_at.ensures.no c.if-is_entry_at.false) c.loop-at.invariant
