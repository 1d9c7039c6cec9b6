use Rattle.std.proofs.Common.{ap}
use Rattle.fd_rule.specs.Tables.{Seated}
use Rattle.fd_part.specs.declared.part.Part.{Part}
use Rattle.fd_pooled.proofs.Compacting.{compacted, has_run, if_ok_then, looks_listed}
use Rattle.fd_pooled.proofs.Passing.{looks_then}
use Rattle.fd_pooled.proofs.compaction.compact_once.Goals as goal

pub compact_run-requires-clause-run : goal.compact_run-requires-clause-run
compact_run-requires-clause-run g c = let t = c.in_ok-picked.ensures.parts in
    (t.0, has_run _ c.args.seat.now.inner.me.0 c.limit-least.new.seat.inner.me.0 c.raise_floor.new.seat.inner.me.0 c.limit-least.result.l c.limit-least.ensures.scan (ap (λ (m : Seated Part). m.0) c.raise_floor.ensures.me) t.0 c.run_upto.new.seat.inner.me.0 t.1 _ _ t.2 t.3 t.4 t.5)

pub returns-clause-compacts : goal.returns-clause-compacts
returns-clause-compacts g c = let t = c.in_ok-picked.ensures.parts in let v = c.args.seat.now.inner.me.0 in let scanned = c.limit-least.new.seat.inner.me.0 in let lifted = c.raise_floor.new.seat.inner.me.0 in let listed = c.run_upto.new.seat.inner.me.0 in
    let raised = ap (λ (m : Seated Part). m.0) c.raise_floor.ensures.me in
    let run = has_run _ v scanned lifted c.limit-least.result.l c.limit-least.ensures.scan raised t.0 listed t.1 _ _ t.2 t.3 t.4 t.5 in
    if_ok_then c.compact_run.result (λ done f. compacted _ v scanned lifted c.limit-least.result.l c.limit-least.ensures.scan raised t.0 listed t.1 done c.compact_run.new.seat.inner.me.0 run.low (f t.0 run)) c.compact_run.ensures.ends

pub returns-clause-looks : goal.returns-clause-looks
returns-clause-looks g c = let t = c.in_ok-picked.ensures.parts in let v = c.args.seat.now.inner.me.0 in let scanned = c.limit-least.new.seat.inner.me.0 in let lifted = c.raise_floor.new.seat.inner.me.0 in let listed = c.run_upto.new.seat.inner.me.0 in
    looks_then v listed c.compact_run.new.seat.inner.me.0 (looks_listed _ v scanned lifted c.limit-least.result.l c.limit-least.ensures.scan (ap (λ (m : Seated Part). m.0) c.raise_floor.ensures.me) t.0 listed t.1) c.compact_run.ensures.looks
