use Rattle.std.proofs.Common.{List, [], ◌∷◌, ◌++◌, ◌∙◌, length, sym, ap, subst, arith}
use Rattle.fd_device.specs.Disks.{Files, no_files, Steps, Torn, written}
use Rattle.fd_device.specs.Changes.{Done, contents, replay}
use Rattle.fd_device.specs.declared.changes.Change.{Change}
use Rattle.fd_device.specs.declared.changes.Change.TheVariants as Changes
use Rattle.fd_device.proofs.ChangeSteps.{keeps_contents, noted_is, follows_now, steps_changed, torn_part, elapses_push}
use Rattle.fd_device.proofs.plain_disk.PlainDiskDisk.write_at.Goals as goal

pub invariant_of-self : goal.invariant_of-self
invariant_of-self c =
    keeps_contents no_files _ _ c.self.inside.changes.items c.record_write.new.changes.items (Changes.Write c.args.file c.args.at c.args.piece.now) c.self.invariant c.in-Ok.ensures.done c.in-Ok.ensures.noted

pub invariant_of-self-in-Err : goal.invariant_of-self-in-Err
invariant_of-self-in-Err c = c.in-Err.ensures.kept ∙ c.self.invariant ∙ ap (λ (l : List Change). replay l no_files) (sym c.in-Err.ensures.same)

pub returns-in-Ok-clause-written : goal.returns-in-Ok-clause-written
returns-in-Ok-clause-written c = λ honest.
    let noted = c.in-Ok.ensures.noted ∙ ap (λ (d : Done). d.changes ++ (Changes.Write c.args.file c.args.at c.args.piece.now) ∷ []) c.self.view_is in
    noted_is no_files c.args.self.now.changes c.record_write.new.changes.items (Changes.Write c.args.file c.args.at c.args.piece.now) noted

pub returns-in-Ok-clause-crash : goal.returns-in-Ok-clause-crash
returns-in-Ok-clause-crash c = λ honest.
    let noted = c.in-Ok.ensures.noted ∙ ap (λ (d : Done). d.changes ++ (Changes.Write c.args.file c.args.at c.args.piece.now) ∷ []) c.self.view_is in
    let is = noted_is no_files c.args.self.now.changes c.record_write.new.changes.items (Changes.Write c.args.file c.args.at c.args.piece.now) noted in
    let old = contents c.args.self.now in
    let step = Torn c.args.at (length c.args.piece.now) in
    follows_now (Steps c.args.file step) old _ (subst (λ (files : Files). Steps c.args.file step old files) (sym is)
    (steps_changed c.args.file step (written c.args.at c.args.piece.now) old (torn_part c.args.at (length c.args.piece.now) c.args.piece.now (old c.args.file) (c.requires tt) (omega arith))))

pub returns-in-Ok-clause-time : goal.returns-in-Ok-clause-time
returns-in-Ok-clause-time c = λ honest.
    let noted = c.in-Ok.ensures.noted ∙ ap (λ (d : Done). d.changes ++ (Changes.Write c.args.file c.args.at c.args.piece.now) ∷ []) c.self.view_is in
    elapses_push c.args.self.now.changes c.record_write.new.changes.items (Changes.Write c.args.file c.args.at c.args.piece.now) noted
