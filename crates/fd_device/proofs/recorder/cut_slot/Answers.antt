use Rattle.std.proofs.Common.{arith, take}
use Rattle.std.proofs.lemmas.Result.{on_ok_weaker, on_err_weaker}
use Rattle.fd_device.specs.Disks.{Cut}
use Rattle.fd_device.specs.MemFiles.{now_of, base_of, lost_of, torn_of}
use Rattle.fd_device.proofs.SlotPlaces.{place_below}
use Rattle.fd_device.proofs.MemSlots.{placed_changes, placed_same, placed_steps}
use Rattle.fd_device.proofs.recorder.cut_slot.Goals as goal

pub index_mut-slot-requires : goal.index_mut-slot-requires
index_mut-slot-requires c = omega (arith, place_below c.place.new.slots.items c.in_ok-i.i c.args.file c.in_ok-i.ensures.place, c.place.new.slots.ok.0)

pub returns-clause-ok : goal.returns-clause-ok
returns-clause-ok c = on_ok_weaker c.cut.result (λ e. placed_changes now_of c.args.slots.now.items c.place.new.slots.items c.args.file c.new.result c.in_ok-i.i c.index_mut-slot.result.now c.cut.new.self (take c.args.size) c.new.ensures.bytes c.in_ok-i.ensures.grown c.in_ok-i.ensures.place c.index_mut-slot.ensures.value e) c.cut.ensures.ok

pub returns-clause-err : goal.returns-clause-err
returns-clause-err c = on_err_weaker c.cut.result (λ e. placed_same now_of c.args.slots.now.items c.place.new.slots.items c.args.file c.new.result c.in_ok-i.i c.index_mut-slot.result.now c.cut.new.self c.new.ensures.bytes c.in_ok-i.ensures.grown c.in_ok-i.ensures.place c.index_mut-slot.ensures.value e) c.cut.ensures.err

pub returns-clause-base : goal.returns-clause-base
returns-clause-base c = placed_same base_of c.args.slots.now.items c.place.new.slots.items c.args.file c.new.result c.in_ok-i.i c.index_mut-slot.result.now c.cut.new.self c.new.ensures.base c.in_ok-i.ensures.grown c.in_ok-i.ensures.place c.index_mut-slot.ensures.value c.cut.ensures.base

pub returns-clause-lost : goal.returns-clause-lost
returns-clause-lost c = placed_same lost_of c.args.slots.now.items c.place.new.slots.items c.args.file c.new.result c.in_ok-i.i c.index_mut-slot.result.now c.cut.new.self c.new.ensures.lost c.in_ok-i.ensures.grown c.in_ok-i.ensures.place c.index_mut-slot.ensures.value c.cut.ensures.lost

pub returns-clause-torn : goal.returns-clause-torn
returns-clause-torn c = on_ok_weaker c.cut.result (λ s. placed_steps torn_of c.args.slots.now.items c.place.new.slots.items c.args.file c.new.result c.in_ok-i.i c.index_mut-slot.result.now c.cut.new.self (Cut c.args.size) c.new.ensures.torn c.in_ok-i.ensures.grown c.in_ok-i.ensures.place c.index_mut-slot.ensures.value s) c.cut.ensures.torn

pub returns-clause-torn_err : goal.returns-clause-torn_err
returns-clause-torn_err c = on_err_weaker c.cut.result (λ e. placed_same torn_of c.args.slots.now.items c.place.new.slots.items c.args.file c.new.result c.in_ok-i.i c.index_mut-slot.result.now c.cut.new.self c.new.ensures.torn c.in_ok-i.ensures.grown c.in_ok-i.ensures.place c.index_mut-slot.ensures.value e) c.cut.ensures.torn_err
