use Rattle.test_pool.proofs.PoolSteps.{pins}
use Rattle.test_pool.proofs.lists.pin_mark.Goals as goal

pub returns-clause-pinned : goal.returns-clause-pinned
returns-clause-pinned c = pins c.pin.result.w c.args.seat.now.inner.me c.pin.new.seat.inner.me c.requires.rest c.pin.ensures.me
