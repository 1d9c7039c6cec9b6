use Rattle.std.proofs.Common.{sym, subst, ap, ◌∙◌, [], ◌∷◌}
use Rattle.fd_rule.specs.Seats.{base_seats, base_table, pass_view}
use Rattle.fd_rule.specs.Tables.{Seated}
use Rattle.fd_pool.specs.Gathers.{Gathers, IsReady}
use Rattle.fd_pool.specs.Pools.{IsPassAt}
use Rattle.fd_pool.proofs.Gathered.{first_taken, gathers_more, gathers_one, more_taken, of_last, of_left, view_last, views_left}
use Rattle.fd_pool.proofs.endings.join_all.Goals as goal

pub loop-pass-init : goal.loop-pass-init
loop-pass-init g c = let first = c.in_ok-first.first in let e = c.in_ok-first.ensures in let left = c.pop.new.self in let all = c.args.passes in let base = c.args.base.now in
    let me = c.enter-seat.ensures.me in let ready = view_last all left first e IsReady c.requires.ready in (
      (pass_view first ∷ [], first_taken all left first e, subst (λ (m : Seated g.row.P.Denot). Gathers (pass_view first ∷ []) m.0) (sym me) (gathers_one (pass_view first) ready)),
      of_left all left first e (IsPassAt (base_table base) (base_seats base)) c.requires.base,
      views_left all left first e IsReady c.requires.ready,
      ap (λ (m : Seated g.row.P.Denot). m.1) me,
      c.enter-seat.ensures.base,
    )

pub take_in-requires-clause-base : goal.take_in-requires-clause-base
take_in-requires-clause-base g c lives longer = let base = c.args.base.now in of_last c.loop-pass.passes c.pop-in-loop-pass.new.self c.in-Some.pass c.in-Some.ensures (IsPassAt (base_table base) (base_seats base)) c.loop-pass.invariant.1

pub take_in-requires-clause-ready : goal.take_in-requires-clause-ready
take_in-requires-clause-ready g c lives longer = view_last c.loop-pass.passes c.pop-in-loop-pass.new.self c.in-Some.pass c.in-Some.ensures IsReady c.loop-pass.invariant.2

pub loop-pass-preserved : goal.loop-pass-preserved
loop-pass-preserved g c = let pass = c.in-Some.pass in let e = c.in-Some.ensures in let left = c.pop-in-loop-pass.new.self in let old = c.loop-pass.passes in let i = c.loop-pass.invariant in let t = i.0 in let base = c.args.base.now in
    let me = c.take_in.ensures.me in let ready = view_last old left pass e IsReady i.2 in (
      (pass_view pass ∷ t.0, t.1 ∙ more_taken old left pass e t.0, subst (λ (m : Seated g.row.P.Denot). Gathers (pass_view pass ∷ t.0) m.0) (sym me) (gathers_more t.0 c.loop-pass.seat.inner.me.0 (pass_view pass) t.2 ready)),
      of_left old left pass e (IsPassAt (base_table base) (base_seats base)) i.1,
      views_left old left pass e IsReady i.2,
      ap (λ (m : Seated g.row.P.Denot). m.1) me ∙ i.3,
      c.take_in.ensures.base ∙ i.4,
    )
