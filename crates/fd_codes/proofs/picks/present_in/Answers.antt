use Rattle.std.proofs.Common.{arith}
use Rattle.fd_codes.proofs.PickLaws.{present_more}
use Rattle.fd_codes.proofs.picks.present_in.Goals as goal

pub loop-level-preserved : goal.loop-level-preserved
loop-level-preserved c =
    let more = present_more c.args.levels.now c.loop-level.level-index c.loop-level-test.true in
    (omega (arith, c.loop-level.invariant.0, c.one_if-count.ensures.value, more), omega (arith, c.loop-level.invariant.1, c.one_if-count.ensures.small))
