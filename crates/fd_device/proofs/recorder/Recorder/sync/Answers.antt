use Rattle.std.proofs.Common.{[], ◌∷◌, ◌++◌, ◌∙◌, sym, ap}
use Rattle.std.proofs.lemmas.Result.{on_ok_weaker, on_err_weaker}
use Rattle.fd_device.specs.Images.{Recording, began}
use Rattle.fd_device.specs.declared.changes.Change.TheVariants as Changes
use Rattle.fd_device.proofs.MemSlots.{bases_are}
use Rattle.fd_device.proofs.recorder.Recorder.sync.Goals as goal

pub returns-clause-ok : goal.returns-clause-ok
returns-clause-ok c =
    on_ok_weaker c.record_sync.result (λ e. record {
      base = bases_are c.record_sync.new.slots.items ∙ c.record_sync.ensures.base ∙ sym (bases_are c.self.inside.slots.items) ∙ ap began c.self.view_is;
      changes = e ∙ ap (λ (r : Recording). r.changes ++ Changes.Sync c.args.file ∷ []) c.self.view_is;
    }) c.record_sync.ensures.ok

pub returns-clause-err : goal.returns-clause-err
returns-clause-err c =
    on_err_weaker c.record_sync.result (λ e. record {
      base = bases_are c.record_sync.new.slots.items ∙ c.record_sync.ensures.base ∙ sym (bases_are c.self.inside.slots.items) ∙ ap began c.self.view_is;
      changes = e ∙ ap (λ (r : Recording). r.changes) c.self.view_is;
    }) c.record_sync.ensures.err
