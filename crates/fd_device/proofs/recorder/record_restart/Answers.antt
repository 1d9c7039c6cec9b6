use Rattle.std.proofs.Common.{List, sym, subst}
use Rattle.fd_device.specs.Images.{HoldsSlots}
use Rattle.fd_device.specs.declared.changes.Change.{Change}
use Rattle.fd_device.proofs.ImageSteps.{restarted_image, restarted_holds}
use Rattle.fd_device.proofs.recorder.record_restart.Goals as goal

pub returns-clause-image : goal.returns-clause-image
returns-clause-image c = restarted_image c.args.slots.now.items c.restart_all.new.slots.items c.args.changes.now.items c.requires.holds c.restart_all.ensures

pub returns-clause-holds : goal.returns-clause-holds
returns-clause-holds c =
    subst (λ (l : List Change). HoldsSlots c.restart_all.new.slots.items l) (sym c.clear.ensures.items) (restarted_holds c.args.slots.now.items c.restart_all.new.slots.items c.restart_all.ensures)
