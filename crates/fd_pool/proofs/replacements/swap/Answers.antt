use Rattle.std.proofs.Common.{sym, subst, refl, ap}
use Rattle.fd_rule.specs.Kinds.TurnReturn.{given_of}
use Rattle.fd_rule.specs.Tables.{Seated}
use Rattle.fd_shelf.specs.Histories.{hist}
use Rattle.fd_shelf.specs.Marks.{IsBook}
use Rattle.fd_shelf.specs.Replacement.{replaced}
use Rattle.fd_pool.specs.Turns.{Turned, with_refusals}
use Rattle.fd_pool.proofs.Replaced.{rows_later}
use Rattle.fd_pool.proofs.TurnSteps.{if_err_then, in_hand, ok_both, turned}
use Rattle.fd_pool.proofs.replacements.swap.Goals as goal

pub swap_taken-requires-clause-hand : goal.swap_taken-requires-clause-hand
swap_taken-requires-clause-hand g c lives longer = let w = c.wait_for_turn-shelf.ensures.taken in in_hand c.wait_for_turn-shelf.result (with_refusals w.busy c.args.seat.now.inner.me.0) c.wait_for_turn-shelf.new.seat.inner.me w.me

pub swap_taken-requires-clause-rows : goal.swap_taken-requires-clause-rows
swap_taken-requires-clause-rows g c lives longer = let w = c.wait_for_turn-shelf.ensures.taken in let shelf = c.wait_for_turn-shelf.result in
    rows_later c.args.seat.now.inner.me.0.seen.history (hist shelf.book shelf.mark) (g.P.Held.means c.args.part) w.later.grows c.requires.rows

pub returns-clause-ok : goal.returns-clause-ok
returns-clause-ok g c = let w = c.wait_for_turn-shelf.ensures.taken in let shelf = c.wait_for_turn-shelf.result in let v = c.args.seat.now.inner.me.0 in let mid = c.wait_for_turn-shelf.new.seat.inner.me in
    let book = (replaced (g.P.Held.means c.args.part) shelf).book in let given = given_of book mid.0 in
    ok_both c.swap_taken.result (λ x me. (given, subst (λ (m : Seated g.row.P.Denot). Turned v given m.0) (sym me) (turned v shelf mid book w (x.history shelf.mark)), record { shelf = shelf; stands = x; mark = ap (λ (m : Seated g.row.P.Denot). m.0.turn.mark) w.me; book = refl })) c.swap_taken.ensures.ok c.swap_taken.ensures.me

pub returns-clause-err : goal.returns-clause-err
returns-clause-err g c = let w = c.wait_for_turn-shelf.ensures.taken in let shelf = c.wait_for_turn-shelf.result in let v = c.args.seat.now.inner.me.0 in let mid = c.wait_for_turn-shelf.new.seat.inner.me in
    let given = given_of shelf.book mid.0 in
    if_err_then c.swap_taken.result (λ why x. (given, subst (λ (m : Seated g.row.P.Denot). Turned v given m.0) (sym x.1) (turned v shelf mid shelf.book w refl), record { order = subst (λ (m : Seated g.row.P.Denot). IsBook shelf.book m.0.turn.mark) (sym w.me) c.is_in_order.ensures.book; known = w.later.kept; back = x.0 })) c.swap_taken.ensures.err
