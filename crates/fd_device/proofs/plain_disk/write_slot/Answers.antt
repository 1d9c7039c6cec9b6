use Rattle.std.proofs.Common.{sym, ◌∙◌, ap, arith, List, ℕ, length}
use Rattle.std.proofs.lemmas.Result.{on_ok_weaker, on_err_weaker}
use Rattle.fd_device.specs.Disks.{Files, written, changed}
use Rattle.fd_device.specs.declared.slots.Slot.{Slot}
use Rattle.fd_device.proofs.SlotPlaces.{place_below, bytes_at, set_changes, set_same, grows_same}
use Rattle.fd_device.proofs.plain_disk.write_slot.Goals as goal

pub index_mut-slot-requires : goal.index_mut-slot-requires
index_mut-slot-requires c = omega (arith, place_below c.place.new.slots.items c.in_ok-i.i c.args.file c.in_ok-i.ensures.place, c.place.new.slots.ok.0)

pub write_at-requires : goal.write_at-requires
write_at-requires c =
    let get = λ (held : List ℕ). held in
    let slot = c.index_mut-slot.result.now in
    let is = bytes_at get c.place.new.slots.items c.in_ok-i.i c.args.file slot c.in_ok-i.ensures.place ∙ ap (λ (s : Slot (List ℕ)). s.held) (sym c.index_mut-slot.ensures.value) in
    let same = grows_same get c.args.slots.now.items c.place.new.slots.items c.args.file c.new.result c.new.ensures c.in_ok-i.ensures.grown in
    omega (arith, c.requires, ap length is, ap (λ (f : Files). length (f c.args.file)) same)

pub returns-clause-ok : goal.returns-clause-ok
returns-clause-ok c =
    let get = λ (held : List ℕ). held in
    let same = grows_same get c.args.slots.now.items c.place.new.slots.items c.args.file c.new.result c.new.ensures c.in_ok-i.ensures.grown in
    on_ok_weaker c.write_at.result
    (λ e. set_changes get c.place.new.slots.items c.in_ok-i.i c.args.file c.index_mut-slot.result.now c.write_at.new.self (written c.args.at c.args.piece.now) c.in_ok-i.ensures.place c.index_mut-slot.ensures.value e
    ∙ ap (λ (f : Files). changed c.args.file (written c.args.at c.args.piece.now) f) same)
    c.write_at.ensures.ok

pub returns-clause-err : goal.returns-clause-err
returns-clause-err c =
    let get = λ (held : List ℕ). held in
    let same = grows_same get c.args.slots.now.items c.place.new.slots.items c.args.file c.new.result c.new.ensures c.in_ok-i.ensures.grown in
    on_err_weaker c.write_at.result
    (λ e. set_same get c.place.new.slots.items c.in_ok-i.i c.args.file c.index_mut-slot.result.now c.write_at.new.self c.in_ok-i.ensures.place c.index_mut-slot.ensures.value e ∙ same)
    c.write_at.ensures.err
