use Rattle.std.proofs.Common.{sym, ◌∙◌}
use Rattle.test_pool.proofs.PoolSteps.{may_report}
use Rattle.test_pool.proofs.writes.report.Goals as goal

pub announce-requires-clause-may : goal.announce-requires-clause-may
announce-requires-clause-may c lives = may_report c.watermark-mark.result c.args.seat.now.inner.me c.watermark-mark.new.seat.inner.me c.watermark-mark.ensures.loaded (sym c.number.ensures.view ∙ c.if-number-ne0.false) c.watermark-mark.ensures.me
