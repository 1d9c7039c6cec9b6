use Rattle.std.proofs.Common.{rules, ◌≡◌, ◌∙◌, List, Some, ap, subst, sym}
use Rattle.std.specs.BTreeMap.{get}
use Rattle.fd_kinds.specs.declared.row.Numbered.{Numbered}
use Rattle.fd_kinds.specs.Meaning.{stack_cmp}
use Rattle.fd_dictionary.specs.Dictionaries.{index_in}
use Rattle.fd_column.specs.Cells.{column_texts}
use Rattle.fd_scan.specs.StackSlots.{KnowsSlots, known_slot, noted}
use Rattle.fd_scan.specs.RowPlaces.{row_at}
use Rattle.fd_scan.proofs.SlotTables.{knows_more}
use Rattle.fd_scan.proofs.stacks.add_sum.Goals as goal

pub add_known-requires : goal.add_known-requires
add_known-requires g c =
    let rows : List Numbered = g.C.Columns.rows c.args.columns.now in
    let entry : c.index-entry.result ≡ index_in (column_texts rows 7) c.args.at = search rules in
    let known : known_slot c.args.known.now.items c.index-entry.result ≡ Some c.in-Some.slot = search rules in
    c.args.sums.now.inside.each (row_at rows c.args.at).stack c.in-Some.slot (c.requires.known.each c.args.at c.in-Some.slot c.requires.inside (ap (known_slot c.args.known.now.items) (sym entry) ∙ known))

pub returns-in_ok-slot-in-None-clause-known : goal.returns-in_ok-slot-in-None-clause-known
returns-in_ok-slot-in-None-clause-known g c =
    let rows : List Numbered = g.C.Columns.rows c.args.columns.now in
    let entry : c.index-entry.result ≡ index_in (column_texts rows 7) c.args.at = search rules in
    let found : get stack_cmp c.add.new.self.slots (row_at rows c.args.at).stack ≡ Some c.in_ok-slot-in-None.slot = search rules in
    let is : c.note.new.known.items ≡ noted c.args.known.now.items (index_in (column_texts rows 7) c.args.at) c.in_ok-slot-in-None.slot = search rules in
    subst (KnowsSlots rows c.add.new.self.slots) (sym is)
    (knows_more rows c.args.sums.now.slots c.add.new.self.slots c.args.known.now.items c.args.at c.in_ok-slot-in-None.slot c.short.ensures c.requires.inside c.add.ensures.kept found c.requires.known)
