use Rattle.std.proofs.Common.{List, [], ◌∷◌, ◌++◌, ◌∙◌, sym, ap, subst, ◌≡◌}
use Rattle.fd_device.specs.Slots.{lookup}
use Rattle.fd_device.specs.MemFiles.{now_of, base_of, lost_of, torn_of}
use Rattle.fd_device.specs.Images.{HoldsSlots}
use Rattle.fd_device.specs.declared.changes.Change.{Change}
use Rattle.fd_device.specs.declared.changes.Change.TheVariants as Changes
use Rattle.fd_device.proofs.ImageSteps.{holds_sync}
use Rattle.fd_device.proofs.recorder.record_sync.Goals as goal

pub returns-in_err-reserve_one-clause-holds : goal.returns-in_err-reserve_one-clause-holds
returns-in_err-reserve_one-clause-holds c =
    subst (λ (l : List Change). HoldsSlots c.args.slots.now.items l) (sym c.reserve_one.ensures.items) c.requires.holds

pub returns-clause-holds : goal.returns-clause-holds
returns-clause-holds c =
    let e = c.sync_slot.ensures in
    let noted : c.note.new.changes.items ≡ c.args.changes.now.items ++ Changes.Sync c.args.file ∷ [] = c.note.ensures ∙ ap (λ (l : List Change). l ++ Changes.Sync c.args.file ∷ []) c.reserve_one.ensures.items in
    holds_sync (lookup base_of c.args.slots.now.items) (lookup now_of c.args.slots.now.items) (lookup lost_of c.args.slots.now.items) (lookup torn_of c.args.slots.now.items) (lookup base_of c.sync_slot.new.slots.items) (lookup now_of c.sync_slot.new.slots.items) (lookup lost_of c.sync_slot.new.slots.items) (lookup torn_of c.sync_slot.new.slots.items) c.args.changes.now.items c.note.new.changes.items c.args.file
    c.requires.holds e.base e.now e.lost e.torn noted
