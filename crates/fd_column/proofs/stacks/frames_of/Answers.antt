use Rattle.std.proofs.Common.{◌∙◌, ap, sym, subst, rules, ◌++◌, append-nil}
use Rattle.std.specs.Prelude.{All, IsUtf8}
use Rattle.fd_column.specs.Stacks.{frames_of}
use Rattle.fd_column.proofs.StackLaws.{no_frame, middle_text}
use Rattle.fd_column.proofs.stacks.frames_of.Goals as goal

pub returns-clause-frames : goal.returns-clause-frames
returns-clause-frames c =
    let none = no_frame c.loop-rest.rest.now (search rules) in
    sym (append-nil c.loop-rest.frames) ∙ ap (λ fs. c.loop-rest.frames ++ fs) (sym none) ∙ c.loop-rest.invariant.frames

pub returns-in_default-clause-none : goal.returns-in_default-clause-none
returns-in_default-clause-none c = λ none all.
    let whole = ap (λ fs. c.loop-rest.frames ++ fs) (sym c.first_frame.ensures.frames) ∙ c.loop-rest.invariant.frames in
    let text : IsUtf8 c.first_frame.result.0.now = middle_text c.loop-rest.frames (frames_of c.first_frame.result.1.now) c.first_frame.result.0.now (subst (All IsUtf8) (sym whole) all) in
    search (rules, text)
