use Rattle.std.proofs.Common.{rules, refl}
use Rattle.fd_pooled.proofs.Passing.{looks_kept, looks_more, looks_self, looks_then}
use Rattle.fd_pooled.proofs.sweeps.sweep_upto.Goals as goal

pub loop-init : goal.loop-init
loop-init g c = (tt, tt, looks_self c.args.seat.now.inner.me.0, c.requires.rest, (refl, refl))

pub returns-in-Err-clause-err : goal.returns-in-Err-clause-err
returns-in-Err-clause-err g c = looks_then c.args.seat.now.inner.me.0 c.loop.seat.inner.me.0 c.sweep_and_look.new.seat.inner.me.0 c.loop.invariant.2 (looks_kept c.loop.seat.inner.me.0 c.sweep_and_look.new.seat.inner.me.0 c.in-Err.ensures.err)

pub loop-preserved : goal.loop-preserved
loop-preserved g c = (
  tt,
  tt,
  looks_more _ c.args.seat.now.inner.me.0 c.loop.seat.inner.me.0 c.in-Ok.mark c.sweep_and_look.new.seat.inner.me.0 c.loop.invariant.2 c.in-Ok.ensures.ok,
  c.sweep_and_look.ensures.rest,
  (search rules, search rules),
)
