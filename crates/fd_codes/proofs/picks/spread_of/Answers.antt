use Rattle.fd_codes.proofs.PickLaws.{spread_more, spread_end}
use Rattle.fd_codes.specs.Picks.{spread}
use Rattle.fd_codes.proofs.picks.spread_of.Goals as goal

pub loop-level-preserved : goal.loop-level-preserved
loop-level-preserved c =
    rw (c.in_ok-push.ensures.ok, c.next_of-pick.ensures.pick, c.next_of-pick.ensures.left)
    (spread_more c.loop-level.all c.args.levels.now c.loop-level.level-index c.loop-level.left.now (spread c.args.levels.now c.args.picks.now) c.loop-level-test.true c.loop-level.invariant)

pub returns : goal.returns
returns c = spread_end c.loop-level.all c.args.levels.now c.loop-level.level-index c.loop-level.left.now (spread c.args.levels.now c.args.picks.now) c.loop-level-test.false c.loop-level.invariant
