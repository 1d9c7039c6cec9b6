use Rattle.std.proofs.Common.{ℕ, List, [], ◌∷◌, ◌++◌, ◌∙◌, sym, ap, subst, ◌≡◌}
use Rattle.fd_device.specs.Slots.{lookup}
use Rattle.fd_device.specs.MemFiles.{now_of, base_of, lost_of, torn_of}
use Rattle.fd_device.specs.Images.{HoldsSlots}
use Rattle.fd_device.specs.declared.changes.Change.{Change}
use Rattle.fd_device.specs.declared.changes.Change.TheVariants as Changes
use Rattle.fd_device.proofs.ImageSteps.{holds_same, holds_write}
use Rattle.fd_device.proofs.recorder.record_write.Goals as goal

pub returns-in_err-reserve_one-clause-holds : goal.returns-in_err-reserve_one-clause-holds
returns-in_err-reserve_one-clause-holds c =
    subst (λ (l : List Change). HoldsSlots c.args.slots.now.items l) (sym c.reserve_one.ensures.items) c.requires.holds

pub returns-in_err-write_slot-clause-holds : goal.returns-in_err-write_slot-clause-holds
returns-in_err-write_slot-clause-holds c =
    let e = c.in_err-write_slot.ensures in
    holds_same (lookup base_of c.args.slots.now.items) (lookup now_of c.args.slots.now.items) (lookup lost_of c.args.slots.now.items) (lookup torn_of c.args.slots.now.items) (lookup base_of c.write_slot.new.slots.items) (lookup now_of c.write_slot.new.slots.items) (lookup lost_of c.write_slot.new.slots.items) (lookup torn_of c.write_slot.new.slots.items) c.args.changes.now.items c.reserve_one.new.changes.items
    c.requires.holds e.base e.err e.lost e.torn_err c.reserve_one.ensures.items

pub returns-clause-holds : goal.returns-clause-holds
returns-clause-holds c =
    let e = c.in_ok-write_slot.ensures in
    let noted : c.note.new.changes.items ≡ c.args.changes.now.items ++ Changes.Write c.args.file c.args.at c.args.piece.now ∷ [] = c.note.ensures ∙ ap (λ (b : List ℕ). c.reserve_one.new.changes.items ++ Changes.Write c.args.file c.args.at b ∷ []) c.in_ok-copy.ensures ∙ ap (λ (l : List Change). l ++ Changes.Write c.args.file c.args.at c.args.piece.now ∷ []) c.reserve_one.ensures.items in
    holds_write (lookup base_of c.args.slots.now.items) (lookup now_of c.args.slots.now.items) (lookup lost_of c.args.slots.now.items) (lookup torn_of c.args.slots.now.items) (lookup base_of c.write_slot.new.slots.items) (lookup now_of c.write_slot.new.slots.items) (lookup lost_of c.write_slot.new.slots.items) (lookup torn_of c.write_slot.new.slots.items) c.args.changes.now.items c.note.new.changes.items c.args.file c.args.at c.args.piece.now
    c.requires.holds c.requires.fits e.base e.ok e.lost e.torn noted
