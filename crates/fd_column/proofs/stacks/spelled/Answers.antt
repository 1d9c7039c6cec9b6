use Rattle.std.proofs.Common.{◌∙◌, ap, sym, rules, [], ◌++◌, take}
use Rattle.std.proofs.lemmas.List.{flat_map_more}
use Rattle.fd_column.specs.Stacks.{stack_bytes, frame_bytes}
use Rattle.fd_column.proofs.Steps.{taken}
use Rattle.fd_column.proofs.stacks.spelled.Goals as goal

pub loop-frame-preserved : goal.loop-frame-preserved
loop-frame-preserved c =
    let t = taken c.args.stack.now c.loop-frame.frame-index c.frame-item.result (search rules) (search rules) in
    c.in_ok-bytes.ensures ∙ ap (λ bytes. bytes ++ frame_bytes c.frame-item.result) c.loop-frame.invariant ∙ flat_map_more frame_bytes [] (take c.loop-frame.frame-index c.args.stack.now) c.frame-item.result ∙ ap stack_bytes (sym t)
