use Rattle.std.proofs.Common.{sym, ◌∙◌, ap}
use Rattle.fd_device.specs.Disks.{same_file}
use Rattle.fd_device.specs.declared.slots.Slot.{Slot}
use Rattle.fd_device.proofs.SlotPlaces.{found_at, absent_more}
use Rattle.fd_device.proofs.slots.find.Goals as goal

pub returns-then-is_same-clause-some : goal.returns-then-is_same-clause-some
returns-then-is_same-clause-some g c =
    let test = ap (λ (s : Slot g.row.T.Denot). same_file c.args.file s.file) (sym c.index-slots-i.is) ∙ sym c.is_same.ensures ∙ c.if-is_same.true in
    found_at c.args.slots.now c.loop-i.i c.args.file c.index-slots-i.result c.loop-i-test.true c.loop-i.invariant test

pub loop-i-preserved : goal.loop-i-preserved
loop-i-preserved g c =
    let test = ap (λ (s : Slot g.row.T.Denot). same_file c.args.file s.file) (sym c.index-slots-i.is) ∙ sym c.is_same.ensures ∙ c.if-is_same.false in
    absent_more c.args.slots.now c.loop-i.i c.args.file c.index-slots-i.result c.loop-i-test.true c.loop-i.invariant test
