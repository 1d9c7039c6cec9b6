use Rattle.std.proofs.Common.{sym, subst, refl}
use Rattle.fd_kinds.specs.History.{History}
use Rattle.fd_rule.specs.Kinds.TurnReturn.{given_of}
use Rattle.fd_rule.specs.Lists.{AllUpto}
use Rattle.fd_rule.specs.Tables.{Seated}
use Rattle.fd_pool.specs.Lists.{IsRun}
use Rattle.fd_pool.specs.Turns.{Turned}
use Rattle.fd_pool.proofs.TurnSteps.{in_hand, seen_now, turned, turned_free}
use Rattle.fd_pool.specs.Turns.{with_refusals}
use Rattle.fd_pool.proofs.Replaced.{if_ok_both}
use Rattle.fd_pool.proofs.lists.run_upto.Goals as goal

pub run_taken-requires-clause-hand : goal.run_taken-requires-clause-hand
run_taken-requires-clause-hand g c lives longer = let w = c.wait_for_turn-shelf.ensures.taken in in_hand c.wait_for_turn-shelf.result (with_refusals w.busy c.args.seat.now.inner.me.0) c.wait_for_turn-shelf.new.seat.inner.me w.me

pub returns-clause-turned : goal.returns-clause-turned
returns-clause-turned g c = let w = c.wait_for_turn-shelf.ensures.taken in let shelf = c.wait_for_turn-shelf.result in let v = c.args.seat.now.inner.me.0 in let mid = c.wait_for_turn-shelf.new.seat.inner.me in
    let given = given_of shelf.book mid.0 in (given, subst (λ (m : Seated g.row.P.Denot). Turned v given m.0) (sym c.run_taken.ensures.me) (turned v shelf mid shelf.book w refl))

pub returns-clause-parts : goal.returns-clause-parts
returns-clause-parts g c = let w = c.wait_for_turn-shelf.ensures.taken in let shelf = c.wait_for_turn-shelf.result in let v = c.args.seat.now.inner.me.0 in let mid = c.wait_for_turn-shelf.new.seat.inner.me in
    let given = given_of shelf.book mid.0 in let t = subst (λ (m : Seated g.row.P.Denot). Turned v given m.0) (sym c.run_taken.ensures.me) (turned v shelf mid shelf.book w refl) in
    let marks : AllUpto given.mark v.seen.marks = subst (λ (m : Seated g.row.P.Denot). AllUpto m.0.turn.mark v.seen.marks) (sym w.me) w.later.marks in
    if_ok_both c.run_taken.result (λ picked x those. (given, t, x, those, subst (λ (h : History). IsRun given c.args.limit.now.l h) (seen_now v c.run_taken.new.seat.inner.me.0 shelf mid shelf.book w t) c.run_taken.ensures.run, marks)) c.run_taken.ensures.placed c.run_taken.ensures.parts

pub returns-clause-free : goal.returns-clause-free
returns-clause-free g c = let w = c.wait_for_turn-shelf.ensures.taken in let shelf = c.wait_for_turn-shelf.result in
    turned_free c.args.seat.now.inner.me.0 shelf c.wait_for_turn-shelf.new.seat.inner.me c.run_taken.new.seat.inner.me shelf.book w c.requires.free.flight c.run_taken.ensures.me
