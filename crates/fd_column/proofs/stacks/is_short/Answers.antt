use Rattle.std.proofs.Common.{rules, ◌<◌, ◌^◌, length, take, sym, subst}
use Rattle.std.proofs.lemmas.List.Elements.{All-push}
use Rattle.fd_column.specs.Stacks.{AreShort}
use Rattle.fd_column.proofs.Steps.{taken}
use Rattle.fd_column.proofs.stacks.is_short.Goals as goal

pub loop-frame-preserved : goal.loop-frame-preserved
loop-frame-preserved c =
    subst AreShort (sym (taken c.args.stack.now c.loop-frame.frame-index c.frame-item.result (search rules) (search rules)))
    (All-push (λ frame. length frame < 2 ^ 32) (take c.loop-frame.frame-index c.args.stack.now) c.frame-item.result c.loop-frame.invariant (c.is_short_frame.ensures.0 (cc)))
