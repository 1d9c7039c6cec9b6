use Rattle.std.proofs.Common.{sym, ◌∙◌, ap, subst, List}
use Rattle.std.proofs.lemmas.List.{take_all}
use Rattle.fd_device.specs.Disks.{same_file}
use Rattle.fd_device.specs.Slots.{IsAbsent}
use Rattle.fd_device.specs.MemFiles.{now_of}
use Rattle.fd_device.specs.declared.mem_file.MemFile.{MemFile}
use Rattle.fd_device.specs.declared.slots.Slot.{Slot}
use Rattle.fd_device.proofs.SlotPlaces.{found_at, absent_more, bytes_at, nothing_at}
use Rattle.fd_device.proofs.recorder.bytes_of.Goals as goal

pub returns-then-is_same : goal.returns-then-is_same
returns-then-is_same c =
    let test = ap (λ (s : Slot MemFile). same_file c.args.file s.file) (sym c.slot-item.is) ∙ sym c.is_same.ensures ∙ c.if-is_same.true in
    let place = found_at c.args.slots.now c.loop-slot.slot-index c.args.file c.slot-item.result c.loop-slot-test.true c.loop-slot.invariant test in
    c.as_slice.ensures ∙ ap (λ (s : Slot MemFile). now_of s.held) c.slot-item.is ∙ sym (bytes_at now_of c.args.slots.now c.loop-slot.slot-index c.args.file c.slot-item.result place)

pub loop-slot-preserved : goal.loop-slot-preserved
loop-slot-preserved c =
    let test = ap (λ (s : Slot MemFile). same_file c.args.file s.file) (sym c.slot-item.is) ∙ sym c.is_same.ensures ∙ c.if-is_same.false in
    absent_more c.args.slots.now c.loop-slot.slot-index c.args.file c.slot-item.result c.loop-slot-test.true c.loop-slot.invariant test

pub returns : goal.returns
returns c =
    let absent = subst (λ (l : List (Slot MemFile)). IsAbsent l c.args.file) (take_all c.loop-slot.slot-index c.args.slots.now c.loop-slot-test.false) c.loop-slot.invariant in
    sym (nothing_at now_of c.args.slots.now c.args.file absent)
