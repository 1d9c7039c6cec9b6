use Rattle.test_pooled.proofs.PinSteps.{pins}
use Rattle.test_pooled.proofs.seats.pin_mark.Goals as goal

pub returns-clause-pinned : goal.returns-clause-pinned
returns-clause-pinned c = pins c.pin.result.w c.args.seat.now.inner.me c.pin.new.seat.inner.me c.requires.rest c.pin.ensures.me
