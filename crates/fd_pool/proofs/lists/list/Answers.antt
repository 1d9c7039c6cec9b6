use Rattle.std.proofs.Common.{sym, subst, refl, map}
use Rattle.fd_kinds.specs.History.{History}
use Rattle.fd_rule.specs.Kinds.TurnReturn.{given_of}
use Rattle.fd_rule.specs.Tables.{Seated}
use Rattle.fd_pool.specs.Lists.{IsListed}
use Rattle.fd_pool.specs.Turns.{Turned, with_refusals}
use Rattle.fd_pool.proofs.TurnSteps.{if_ok_then, seen_now, turned, turned_free}
use Rattle.fd_pool.proofs.lists.list.Goals as goal

pub list_taken-requires-clause-taken : goal.list_taken-requires-clause-taken
list_taken-requires-clause-taken g c lives longer = let w = c.wait_for_turn-shelf.ensures.taken in record { view = with_refusals w.busy c.args.seat.now.inner.me.0; pinned = c.requires.pinned; loaded = c.requires.loaded; later = w.later; me = w.me }

pub returns-clause-turned : goal.returns-clause-turned
returns-clause-turned g c = let w = c.wait_for_turn-shelf.ensures.taken in let shelf = c.wait_for_turn-shelf.result in let v = c.args.seat.now.inner.me.0 in let mid = c.wait_for_turn-shelf.new.seat.inner.me in
    let given = given_of shelf.book mid.0 in (given, subst (λ (m : Seated g.row.P.Denot). Turned v given m.0) (sym c.list_taken.ensures.me) (turned v shelf mid shelf.book w refl))

pub returns-clause-placed : goal.returns-clause-placed
returns-clause-placed g c = let w = c.wait_for_turn-shelf.ensures.taken in let shelf = c.wait_for_turn-shelf.result in let v = c.args.seat.now.inner.me.0 in let mid = c.wait_for_turn-shelf.new.seat.inner.me in
    let given = given_of shelf.book mid.0 in let t = subst (λ (m : Seated g.row.P.Denot). Turned v given m.0) (sym c.list_taken.ensures.me) (turned v shelf mid shelf.book w refl) in
    if_ok_then c.list_taken.result (λ picked x. (given, t, x)) c.list_taken.ensures.placed

pub returns-clause-parts : goal.returns-clause-parts
returns-clause-parts g c = let w = c.wait_for_turn-shelf.ensures.taken in let shelf = c.wait_for_turn-shelf.result in let v = c.args.seat.now.inner.me.0 in let mid = c.wait_for_turn-shelf.new.seat.inner.me in
    let given = given_of shelf.book mid.0 in let t = subst (λ (m : Seated g.row.P.Denot). Turned v given m.0) (sym c.list_taken.ensures.me) (turned v shelf mid shelf.book w refl) in
    if_ok_then c.list_taken.result (λ picked x. (given, t, subst (λ (h : History). IsListed given c.args.pin.now.w h (map (λ i. g.P.Held.means i.part) picked)) (seen_now v c.list_taken.new.seat.inner.me.0 shelf mid shelf.book w t) x)) c.list_taken.ensures.parts

pub returns-clause-free : goal.returns-clause-free
returns-clause-free g c = let w = c.wait_for_turn-shelf.ensures.taken in let shelf = c.wait_for_turn-shelf.result in
    turned_free c.args.seat.now.inner.me.0 shelf c.wait_for_turn-shelf.new.seat.inner.me c.list_taken.new.seat.inner.me shelf.book w c.requires.free.flight c.list_taken.ensures.me
