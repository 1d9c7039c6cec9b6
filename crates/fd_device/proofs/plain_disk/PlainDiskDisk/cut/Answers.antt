use Rattle.std.proofs.Common.{List, [], ◌∷◌, ◌++◌, ◌∙◌, sym, ap, subst, take}
use Rattle.fd_device.specs.Disks.{Files, no_files, Steps, Cut}
use Rattle.fd_device.specs.Changes.{Done, contents, replay}
use Rattle.fd_device.specs.declared.changes.Change.{Change}
use Rattle.fd_device.specs.declared.changes.Change.TheVariants as Changes
use Rattle.fd_device.proofs.ChangeSteps.{keeps_contents, noted_is, follows_now, steps_changed, cut_done, elapses_push}
use Rattle.fd_device.proofs.plain_disk.PlainDiskDisk.cut.Goals as goal

pub invariant_of-self : goal.invariant_of-self
invariant_of-self c =
    keeps_contents no_files _ _ c.self.inside.changes.items c.record_cut.new.changes.items (Changes.Cut c.args.file c.args.size) c.self.invariant c.in-Ok.ensures.done c.in-Ok.ensures.noted

pub invariant_of-self-in-Err : goal.invariant_of-self-in-Err
invariant_of-self-in-Err c = c.in-Err.ensures.kept ∙ c.self.invariant ∙ ap (λ (l : List Change). replay l no_files) (sym c.in-Err.ensures.same)

pub returns-in-Ok-clause-cut : goal.returns-in-Ok-clause-cut
returns-in-Ok-clause-cut c = λ honest.
    let noted = c.in-Ok.ensures.noted ∙ ap (λ (d : Done). d.changes ++ (Changes.Cut c.args.file c.args.size) ∷ []) c.self.view_is in
    noted_is no_files c.args.self.now.changes c.record_cut.new.changes.items (Changes.Cut c.args.file c.args.size) noted

pub returns-in-Ok-clause-crash : goal.returns-in-Ok-clause-crash
returns-in-Ok-clause-crash c = λ honest.
    let noted = c.in-Ok.ensures.noted ∙ ap (λ (d : Done). d.changes ++ (Changes.Cut c.args.file c.args.size) ∷ []) c.self.view_is in
    let is = noted_is no_files c.args.self.now.changes c.record_cut.new.changes.items (Changes.Cut c.args.file c.args.size) noted in
    let old = contents c.args.self.now in
    follows_now (Steps c.args.file (Cut c.args.size)) old _ (subst (λ (files : Files). Steps c.args.file (Cut c.args.size) old files) (sym is) (steps_changed c.args.file (Cut c.args.size) (take c.args.size) old (cut_done c.args.size (old c.args.file) (c.requires tt))))

pub returns-in-Ok-clause-time : goal.returns-in-Ok-clause-time
returns-in-Ok-clause-time c = λ honest.
    let noted = c.in-Ok.ensures.noted ∙ ap (λ (d : Done). d.changes ++ (Changes.Cut c.args.file c.args.size) ∷ []) c.self.view_is in
    elapses_push c.args.self.now.changes c.record_cut.new.changes.items (Changes.Cut c.args.file c.args.size) noted
