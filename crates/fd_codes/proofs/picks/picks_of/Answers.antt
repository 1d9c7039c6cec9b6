use Rattle.std.proofs.Common.{◌∙◌, arith}
use Rattle.fd_codes.proofs.PickLaws.{picks_step}
use Rattle.fd_codes.proofs.picks.picks_of.Goals as goal

pub loop-index-preserved : goal.loop-index-preserved
loop-index-preserved c =
    let step = picks_step c.loop-index.picks c.args.indexes.now c.loop-index.index-index c.args.size c.loop-index-test.true c.loop-index.invariant.0 c.loop-index.invariant.1 (omega arith) in
    (c.in_ok-push.ensures.ok ∙ step.0, step.1)
