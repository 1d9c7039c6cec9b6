use Rattle.fd_pooled.proofs.Passing.{looks_kept}
use Rattle.fd_pooled.proofs.compaction.put_run.Goals as goal

pub returns-in-Ok-clause-looks : goal.returns-in-Ok-clause-looks
returns-in-Ok-clause-looks g c = let t = c.in-Ok.ensures.ok in looks_kept c.args.seat.now.inner.me.0 c.swap.new.seat.inner.me.0 t.1.kept

pub returns-in-Err-Overtaken-clause-looks : goal.returns-in-Err-Overtaken-clause-looks
returns-in-Err-Overtaken-clause-looks g c = let t = c.in-Err-Overtaken.ensures.err in looks_kept c.args.seat.now.inner.me.0 c.swap.new.seat.inner.me.0 t.1.kept

pub returns-clause-looks : goal.returns-clause-looks
returns-clause-looks g c = let t = c.in-Err-Changed.ensures.err in looks_kept c.args.seat.now.inner.me.0 c.swap.new.seat.inner.me.0 t.1.kept
