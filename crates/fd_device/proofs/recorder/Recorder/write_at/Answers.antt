use Rattle.std.proofs.Common.{[], ◌∷◌, ◌++◌, ◌∙◌, sym, ap, length, arith}
use Rattle.std.proofs.lemmas.Result.{on_ok_weaker, on_err_weaker}
use Rattle.fd_device.specs.Disks.{Files}
use Rattle.fd_device.specs.Images.{Recording, recorded, began}
use Rattle.fd_device.specs.declared.changes.Change.TheVariants as Changes
use Rattle.fd_device.proofs.MemSlots.{bases_are}
use Rattle.fd_device.proofs.ImageSteps.{recorded_is}
use Rattle.fd_device.proofs.recorder.Recorder.write_at.Goals as goal

pub record_write-requires-clause-fits : goal.record_write-requires-clause-fits
record_write-requires-clause-fits c =
    let is = ap (λ (g : Files). g c.args.file) (recorded_is c.self.inside.slots.items c.self.inside.changes.items c.self.invariant) ∙ ap (λ (r : Recording). recorded r c.args.file) c.self.view_is in
    omega (arith, c.requires, ap length is)

pub returns-clause-ok : goal.returns-clause-ok
returns-clause-ok c =
    on_ok_weaker c.record_write.result (λ e. record {
      base = bases_are c.record_write.new.slots.items ∙ c.record_write.ensures.base ∙ sym (bases_are c.self.inside.slots.items) ∙ ap began c.self.view_is;
      changes = e ∙ ap (λ (r : Recording). r.changes ++ Changes.Write c.args.file c.args.at c.args.piece.now ∷ []) c.self.view_is;
    }) c.record_write.ensures.ok

pub returns-clause-err : goal.returns-clause-err
returns-clause-err c =
    on_err_weaker c.record_write.result (λ e. record {
      base = bases_are c.record_write.new.slots.items ∙ c.record_write.ensures.base ∙ sym (bases_are c.self.inside.slots.items) ∙ ap began c.self.view_is;
      changes = e ∙ ap (λ (r : Recording). r.changes) c.self.view_is;
    }) c.record_write.ensures.err
