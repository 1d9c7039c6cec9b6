use Rattle.std.proofs.Common.{sym, subst}
use Rattle.fd_device.specs.Disks.{Files}
use Rattle.fd_device.specs.Slots.{lookup}
use Rattle.fd_device.specs.MemFiles.{base_of, files_of, bases}
use Rattle.fd_device.specs.Images.{Recording, began, images_of}
use Rattle.fd_device.proofs.MemSlots.{bases_are}
use Rattle.fd_device.proofs.recorder.Recorder.restart.Goals as goal

pub returns-clause-image : goal.returns-clause-image
returns-clause-image c =
    let old = c.self.inside.slots.items in
    let new = c.record_restart.new.slots.items in
    let changes = c.self.inside.changes.items in
    subst (λ (r : Recording). images_of (began r) r.changes (files_of (bases new))) c.self.view_is
    (subst (λ (g : Files). images_of (files_of (bases old)) changes g) (sym (bases_are new))
    (subst (λ (g : Files). images_of g changes (lookup base_of new)) (sym (bases_are old)) c.record_restart.ensures.image))
