use Rattle.std.proofs.Common.{subst, arith, List, ℕ, take}
use Rattle.fd_device.specs.Slots.{IsPlace, IsAbsent}
use Rattle.fd_device.specs.declared.slots.Slot.{Slot}
use Rattle.fd_device.proofs.SlotPlaces.{place_below, set_changes, absent_cut}
use Rattle.fd_device.proofs.plain_disk.cut_slot.Goals as goal

pub index_mut-slot-requires : goal.index_mut-slot-requires
index_mut-slot-requires c =
    let place = subst (λ (l : List (Slot (List ℕ))). IsPlace l c.in-Some.i c.args.file) c.deref.ensures.value c.in-Some.ensures.some in
    omega (arith, place_below c.args.slots.now.items c.in-Some.i c.args.file place, c.args.slots.now.ok.0)

pub returns-in-Some : goal.returns-in-Some
returns-in-Some c =
    let place = subst (λ (l : List (Slot (List ℕ))). IsPlace l c.in-Some.i c.args.file) c.deref.ensures.value c.in-Some.ensures.some in
    set_changes (λ (held : List ℕ). held) c.args.slots.now.items c.in-Some.i c.args.file c.index_mut-slot.result.now c.truncate.new.self (take c.args.size) place c.index_mut-slot.ensures.value c.truncate.ensures

pub returns-in_default : goal.returns-in_default
returns-in_default c =
    let absent = subst (λ (l : List (Slot (List ℕ))). IsAbsent l c.args.file) c.deref.ensures.value c.in_default.ensures.none in
    absent_cut (λ (held : List ℕ). held) c.args.slots.now.items c.args.file c.args.size absent
