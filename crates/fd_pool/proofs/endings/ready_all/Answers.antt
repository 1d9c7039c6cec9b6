use Rattle.std.proofs.Common.{arith, sym, ◌∙◌, ap, ◌≡◌, ◌+◌, true, [], ◌∷◌, length, length-append}
use Rattle.fd_rule.specs.Seats.{base_seats, base_table}
use Rattle.fd_pool.specs.Finishes.{IsRested}
use Rattle.fd_pool.specs.Pools.{IsPassAt, views_of}
use Rattle.fd_pool.proofs.Gathered.{all_kept_self, not_both, of_last, readying_more, view_last}
use Rattle.fd_pool.proofs.endings.ready_all.Goals as goal
use Rattle.fd_pool.proofs.endings.ready_all.Goals.{then-enough, else-enough}

pub returns-in-Err-clause-kept : goal.returns-in-Err-clause-kept
returns-in-Err-clause-kept g c = all_kept_self (views_of c.args.passes)

pub ready_pass-same-requires-clause-base : goal.ready_pass-same-requires-clause-base
ready_pass-same-requires-clause-base g c lives longer = let base = c.args.base.now in of_last c.loop-pass.left c.pop.new.self c.in-Some.pass c.in-Some.ensures (IsPassAt (base_table base) (base_seats base)) c.loop-pass.invariant.0.left_passes

pub ready_pass-same-requires-clause-rested : goal.ready_pass-same-requires-clause-rested
ready_pass-same-requires-clause-rested g c lives longer = view_last c.loop-pass.left c.pop.new.self c.in-Some.pass c.in-Some.ensures IsRested c.loop-pass.invariant.0.left_rested

pub loop-pass-preserved : goal.loop-pass-preserved
loop-pass-preserved g c = let base = c.args.base.now in let old = c.loop-pass.left in let left = c.pop.new.self in let pass = c.in-Some.pass in let same = c.ready_pass-same.result.0 in let r = c.ready_pass-same.ensures in let p = c.put_first.ensures in
    let both : c.if-enough.enough ≡ true → (c.loop-pass.enough ≡ true) × (c.ready_pass-same.result.1 ≡ true) = elim c.if-enough.branch [ then-enough w ↦ λ e. (w.if-enough.true, sym w.enough-is ∙ e) | else-enough w ↦ λ e. absurd (not_both c.if-enough.enough (w.enough-is ∙ w.if-enough.false) e) ] in
    let room = c.loop-pass.invariant.1 in let len = p.len in let capacity = p.capacity in
    let shorter : length old ≡ length left + 1 = ap length c.in-Some.ensures ∙ length-append left (pass ∷ []) in (
      readying_more (base_table base) (base_seats base) c.args.passes old left c.loop-pass.done.items c.put_first.new.list.items pass same c.loop-pass.enough c.ready_pass-same.result.1 c.if-enough.enough c.loop-pass.invariant.0 c.in-Some.ensures p.items r.base r.kept r.rested r.ready both,
      omega (arith, room, len, capacity, shorter),
    )
