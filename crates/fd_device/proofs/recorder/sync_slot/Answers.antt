use Rattle.std.proofs.Common.{subst, arith, List, ℕ, sym, ap, ◌∙◌}
use Rattle.fd_device.specs.Slots.{lookup, IsPlace, IsAbsent}
use Rattle.fd_device.specs.MemFiles.{now_of, base_of, lost_of, torn_of}
use Rattle.fd_device.specs.declared.slots.Slot.{Slot}
use Rattle.fd_device.specs.declared.mem_file.MemFile.{MemFile}
use Rattle.fd_device.proofs.SlotPlaces.{place_below, bytes_at, nothing_at, set_changes, set_same, absent_changes}
use Rattle.fd_device.proofs.recorder.sync_slot.Goals as goal

pub index_mut-slot-requires : goal.index_mut-slot-requires
index_mut-slot-requires c =
    let place = subst (λ (l : List (Slot MemFile)). IsPlace l c.in-Some.i c.args.file) c.deref.ensures.value c.in-Some.ensures.some in
    omega (arith, place_below c.args.slots.now.items c.in-Some.i c.args.file place, c.args.slots.now.ok.0)

pub returns-in-Some-clause-now : goal.returns-in-Some-clause-now
returns-in-Some-clause-now c =
    let place = subst (λ (l : List (Slot MemFile)). IsPlace l c.in-Some.i c.args.file) c.deref.ensures.value c.in-Some.ensures.some in
    set_same now_of c.args.slots.now.items c.in-Some.i c.args.file c.index_mut-slot.result.now c.sync.new.self place c.index_mut-slot.ensures.value c.sync.ensures.bytes

pub returns-in-Some-clause-base : goal.returns-in-Some-clause-base
returns-in-Some-clause-base c =
    let place = subst (λ (l : List (Slot MemFile)). IsPlace l c.in-Some.i c.args.file) c.deref.ensures.value c.in-Some.ensures.some in
    set_same base_of c.args.slots.now.items c.in-Some.i c.args.file c.index_mut-slot.result.now c.sync.new.self place c.index_mut-slot.ensures.value c.sync.ensures.base

pub returns-in-Some-clause-lost : goal.returns-in-Some-clause-lost
returns-in-Some-clause-lost c =
    let place = subst (λ (l : List (Slot MemFile)). IsPlace l c.in-Some.i c.args.file) c.deref.ensures.value c.in-Some.ensures.some in
    let is = bytes_at now_of c.args.slots.now.items c.in-Some.i c.args.file c.index_mut-slot.result.now place ∙ ap (λ (s : Slot MemFile). now_of s.held) (sym c.index_mut-slot.ensures.value) in
    set_changes lost_of c.args.slots.now.items c.in-Some.i c.args.file c.index_mut-slot.result.now c.sync.new.self (λ (l : List ℕ). lookup now_of c.args.slots.now.items c.args.file) place c.index_mut-slot.ensures.value (c.sync.ensures.lost ∙ sym is)

pub returns-in-Some-clause-torn : goal.returns-in-Some-clause-torn
returns-in-Some-clause-torn c =
    let place = subst (λ (l : List (Slot MemFile)). IsPlace l c.in-Some.i c.args.file) c.deref.ensures.value c.in-Some.ensures.some in
    let is = bytes_at now_of c.args.slots.now.items c.in-Some.i c.args.file c.index_mut-slot.result.now place ∙ ap (λ (s : Slot MemFile). now_of s.held) (sym c.index_mut-slot.ensures.value) in
    set_changes torn_of c.args.slots.now.items c.in-Some.i c.args.file c.index_mut-slot.result.now c.sync.new.self (λ (l : List ℕ). lookup now_of c.args.slots.now.items c.args.file) place c.index_mut-slot.ensures.value (c.sync.ensures.torn ∙ sym is)

pub returns-in_default-clause-lost : goal.returns-in_default-clause-lost
returns-in_default-clause-lost c =
    let absent = subst (λ (l : List (Slot MemFile)). IsAbsent l c.args.file) c.deref.ensures.value c.in_default.ensures.none in
    absent_changes lost_of c.args.slots.now.items c.args.file (lookup now_of c.args.slots.now.items c.args.file) absent (nothing_at now_of c.args.slots.now.items c.args.file absent)

pub returns-in_default-clause-torn : goal.returns-in_default-clause-torn
returns-in_default-clause-torn c =
    let absent = subst (λ (l : List (Slot MemFile)). IsAbsent l c.args.file) c.deref.ensures.value c.in_default.ensures.none in
    absent_changes torn_of c.args.slots.now.items c.args.file (lookup now_of c.args.slots.now.items c.args.file) absent (nothing_at now_of c.args.slots.now.items c.args.file absent)
