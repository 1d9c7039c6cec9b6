use Rattle.std.proofs.Common.{sym, ◌∙◌, ap, arith, length}
use Rattle.std.proofs.lemmas.Result.{on_ok_weaker, on_err_weaker}
use Rattle.fd_device.specs.Disks.{Files, written, Torn}
use Rattle.fd_device.specs.MemFiles.{now_of, base_of, lost_of, torn_of}
use Rattle.fd_device.specs.declared.slots.Slot.{Slot}
use Rattle.fd_device.specs.declared.mem_file.MemFile.{MemFile}
use Rattle.fd_device.proofs.SlotPlaces.{place_below, bytes_at, grows_same}
use Rattle.fd_device.proofs.MemSlots.{placed_changes, placed_same, placed_steps}
use Rattle.fd_device.proofs.recorder.write_slot.Goals as goal

pub index_mut-slot-requires : goal.index_mut-slot-requires
index_mut-slot-requires c = omega (arith, place_below c.place.new.slots.items c.in_ok-i.i c.args.file c.in_ok-i.ensures.place, c.place.new.slots.ok.0)

pub write_at-requires : goal.write_at-requires
write_at-requires c =
    let slot = c.index_mut-slot.result.now in
    let is = bytes_at now_of c.place.new.slots.items c.in_ok-i.i c.args.file slot c.in_ok-i.ensures.place ∙ ap (λ (s : Slot MemFile). now_of s.held) (sym c.index_mut-slot.ensures.value) in
    let same = grows_same now_of c.args.slots.now.items c.place.new.slots.items c.args.file c.new.result c.new.ensures.bytes c.in_ok-i.ensures.grown in
    omega (arith, c.requires, ap length is, ap (λ (f : Files). length (f c.args.file)) same)

pub returns-clause-ok : goal.returns-clause-ok
returns-clause-ok c = on_ok_weaker c.write_at.result (λ e. placed_changes now_of c.args.slots.now.items c.place.new.slots.items c.args.file c.new.result c.in_ok-i.i c.index_mut-slot.result.now c.write_at.new.self (written c.args.at c.args.piece.now) c.new.ensures.bytes c.in_ok-i.ensures.grown c.in_ok-i.ensures.place c.index_mut-slot.ensures.value e) c.write_at.ensures.ok

pub returns-clause-err : goal.returns-clause-err
returns-clause-err c = on_err_weaker c.write_at.result (λ e. placed_same now_of c.args.slots.now.items c.place.new.slots.items c.args.file c.new.result c.in_ok-i.i c.index_mut-slot.result.now c.write_at.new.self c.new.ensures.bytes c.in_ok-i.ensures.grown c.in_ok-i.ensures.place c.index_mut-slot.ensures.value e) c.write_at.ensures.err

pub returns-clause-base : goal.returns-clause-base
returns-clause-base c = placed_same base_of c.args.slots.now.items c.place.new.slots.items c.args.file c.new.result c.in_ok-i.i c.index_mut-slot.result.now c.write_at.new.self c.new.ensures.base c.in_ok-i.ensures.grown c.in_ok-i.ensures.place c.index_mut-slot.ensures.value c.write_at.ensures.base

pub returns-clause-lost : goal.returns-clause-lost
returns-clause-lost c = placed_same lost_of c.args.slots.now.items c.place.new.slots.items c.args.file c.new.result c.in_ok-i.i c.index_mut-slot.result.now c.write_at.new.self c.new.ensures.lost c.in_ok-i.ensures.grown c.in_ok-i.ensures.place c.index_mut-slot.ensures.value c.write_at.ensures.lost

pub returns-clause-torn : goal.returns-clause-torn
returns-clause-torn c = on_ok_weaker c.write_at.result (λ s. placed_steps torn_of c.args.slots.now.items c.place.new.slots.items c.args.file c.new.result c.in_ok-i.i c.index_mut-slot.result.now c.write_at.new.self (Torn c.args.at (length c.args.piece.now)) c.new.ensures.torn c.in_ok-i.ensures.grown c.in_ok-i.ensures.place c.index_mut-slot.ensures.value s) c.write_at.ensures.torn

pub returns-clause-torn_err : goal.returns-clause-torn_err
returns-clause-torn_err c = on_err_weaker c.write_at.result (λ e. placed_same torn_of c.args.slots.now.items c.place.new.slots.items c.args.file c.new.result c.in_ok-i.i c.index_mut-slot.result.now c.write_at.new.self c.new.ensures.torn c.in_ok-i.ensures.grown c.in_ok-i.ensures.place c.index_mut-slot.ensures.value e) c.write_at.ensures.torn_err
