use Rattle.std.proofs.Common.{[], ◌∷◌, ◌++◌, ◌∙◌, sym, ap, length, arith}
use Rattle.std.proofs.lemmas.Result.{on_ok_weaker, on_err_weaker}
use Rattle.fd_device.specs.Disks.{Files}
use Rattle.fd_device.specs.Images.{Recording, recorded, began}
use Rattle.fd_device.specs.declared.changes.Change.TheVariants as Changes
use Rattle.fd_device.proofs.MemSlots.{bases_are}
use Rattle.fd_device.proofs.ImageSteps.{recorded_is}
use Rattle.fd_device.proofs.recorder.Recorder.cut.Goals as goal

pub record_cut-requires-clause-fits : goal.record_cut-requires-clause-fits
record_cut-requires-clause-fits c =
    let is = ap (λ (g : Files). g c.args.file) (recorded_is c.self.inside.slots.items c.self.inside.changes.items c.self.invariant) ∙ ap (λ (r : Recording). recorded r c.args.file) c.self.view_is in
    omega (arith, c.requires, ap length is)

pub returns-clause-ok : goal.returns-clause-ok
returns-clause-ok c =
    on_ok_weaker c.record_cut.result (λ e. record {
      base = bases_are c.record_cut.new.slots.items ∙ c.record_cut.ensures.base ∙ sym (bases_are c.self.inside.slots.items) ∙ ap began c.self.view_is;
      changes = e ∙ ap (λ (r : Recording). r.changes ++ Changes.Cut c.args.file c.args.size ∷ []) c.self.view_is;
    }) c.record_cut.ensures.ok

pub returns-clause-err : goal.returns-clause-err
returns-clause-err c =
    on_err_weaker c.record_cut.result (λ e. record {
      base = bases_are c.record_cut.new.slots.items ∙ c.record_cut.ensures.base ∙ sym (bases_are c.self.inside.slots.items) ∙ ap began c.self.view_is;
      changes = e ∙ ap (λ (r : Recording). r.changes) c.self.view_is;
    }) c.record_cut.ensures.err
