use Rattle.std.proofs.Common.{List, ◌∙◌, sym, ap}
use Rattle.fd_device.specs.Disks.{Files}
use Rattle.fd_device.specs.Changes.{replay}
use Rattle.fd_device.specs.Slots.{lookup}
use Rattle.fd_device.specs.MemFiles.{now_of}
use Rattle.fd_device.specs.declared.slots.Slot.{Slot}
use Rattle.fd_device.specs.declared.mem_file.MemFile.{MemFile}
use Rattle.fd_device.specs.Images.{Recording, recorded}
use Rattle.fd_device.proofs.MemSlots.{bases_are}
use Rattle.fd_device.proofs.recorder.Recorder.bytes_of.Goals as goal

pub returns : goal.returns
returns c =
    c.bytes_of.ensures ∙ ap (λ (l : List (Slot MemFile)). lookup now_of l c.args.file) c.deref.ensures.value ∙ ap (λ (g : Files). g c.args.file) c.self.invariant.present
    ∙ ap (λ (g : Files). replay c.self.inside.changes.items g c.args.file) (sym (bases_are c.self.inside.slots.items))
    ∙ ap (λ (r : Recording). recorded r c.args.file) c.self.view_is
