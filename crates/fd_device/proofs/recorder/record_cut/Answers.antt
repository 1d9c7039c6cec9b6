use Rattle.std.proofs.Common.{List, [], ◌∷◌, ◌++◌, ◌∙◌, sym, ap, subst, ◌≡◌}
use Rattle.fd_device.specs.Slots.{lookup}
use Rattle.fd_device.specs.MemFiles.{now_of, base_of, lost_of, torn_of}
use Rattle.fd_device.specs.Images.{HoldsSlots}
use Rattle.fd_device.specs.declared.changes.Change.{Change}
use Rattle.fd_device.specs.declared.changes.Change.TheVariants as Changes
use Rattle.fd_device.proofs.ImageSteps.{holds_same, holds_cut}
use Rattle.fd_device.proofs.recorder.record_cut.Goals as goal

pub returns-in_err-reserve_one-clause-holds : goal.returns-in_err-reserve_one-clause-holds
returns-in_err-reserve_one-clause-holds c =
    subst (λ (l : List Change). HoldsSlots c.args.slots.now.items l) (sym c.reserve_one.ensures.items) c.requires.holds

pub returns-in_err-cut_slot-clause-holds : goal.returns-in_err-cut_slot-clause-holds
returns-in_err-cut_slot-clause-holds c =
    let e = c.in_err-cut_slot.ensures in
    holds_same (lookup base_of c.args.slots.now.items) (lookup now_of c.args.slots.now.items) (lookup lost_of c.args.slots.now.items) (lookup torn_of c.args.slots.now.items) (lookup base_of c.cut_slot.new.slots.items) (lookup now_of c.cut_slot.new.slots.items) (lookup lost_of c.cut_slot.new.slots.items) (lookup torn_of c.cut_slot.new.slots.items) c.args.changes.now.items c.reserve_one.new.changes.items
    c.requires.holds e.base e.err e.lost e.torn_err c.reserve_one.ensures.items

pub returns-clause-holds : goal.returns-clause-holds
returns-clause-holds c =
    let e = c.in_ok-cut_slot.ensures in
    let noted : c.note.new.changes.items ≡ c.args.changes.now.items ++ Changes.Cut c.args.file c.args.size ∷ [] = c.note.ensures ∙ ap (λ (l : List Change). l ++ Changes.Cut c.args.file c.args.size ∷ []) c.reserve_one.ensures.items in
    holds_cut (lookup base_of c.args.slots.now.items) (lookup now_of c.args.slots.now.items) (lookup lost_of c.args.slots.now.items) (lookup torn_of c.args.slots.now.items) (lookup base_of c.cut_slot.new.slots.items) (lookup now_of c.cut_slot.new.slots.items) (lookup lost_of c.cut_slot.new.slots.items) (lookup torn_of c.cut_slot.new.slots.items) c.args.changes.now.items c.note.new.changes.items c.args.file c.args.size
    c.requires.holds c.requires.fits e.base e.ok e.lost e.torn noted
