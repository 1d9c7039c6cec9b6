use Rattle.std.proofs.Common.{rules, refl}
use Rattle.fd_pool.proofs.TurnSteps.{kept_self, kept_then}
use Rattle.fd_pool.proofs.lanes.ready.Goals as goal

pub loop-init : goal.loop-init
loop-init g c = (tt, tt, kept_self c.args.seat.now.inner.me.0, c.requires.free, (refl, refl))

pub returns-then-is_empty-clause-kept : goal.returns-then-is_empty-clause-kept
returns-then-is_empty-clause-kept g c = kept_then _ _ _ c.loop.invariant.2 c.is_empty.ensures.kept

pub returns-then-not-has_memory-clause-kept : goal.returns-then-not-has_memory-clause-kept
returns-then-not-has_memory-clause-kept g c = kept_then _ _ _ (kept_then _ _ _ c.loop.invariant.2 c.is_empty.ensures.kept) c.has_memory.ensures.kept

pub loop-preserved : goal.loop-preserved
loop-preserved g c = (tt, tt, kept_then _ _ _ (kept_then _ _ _ c.loop.invariant.2 c.is_empty.ensures.kept) c.has_memory.ensures.kept, c.has_memory.ensures.free, (search rules, search rules))
