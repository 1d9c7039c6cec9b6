use Rattle.std.proofs.Common.{rules, sym, subst, ap, ◌∙◌, ◌≡◌, true≢false}
use Rattle.fd_rule.specs.Tables.{Seated}
use Rattle.fd_rule.specs.View.{View}
use Rattle.fd_pool.specs.Kept.{IsFree, Kept}
use Rattle.fd_pool.proofs.TurnSteps.{kept_lane, own_empty}
use Rattle.fd_pool.proofs.lanes.is_empty.Goals as goal

pub load_lane-requires-clause-may : goal.load_lane-requires-clause-may
load_lane-requires-clause-may g c lives longer = record { inside = search rules; hand = λ holds. absurd (true≢false (sym holds ∙ c.requires.free.turn)) }

pub returns-clause-empty : goal.returns-clause-empty
returns-clause-empty g c is = let v : View = c.args.seat.now.inner.me.0 in let zero : c.load_lane.result ≡ 0 = search rules in let number : c.number-own.result ≡ v.place.number = search rules in
    ap (λ (m : Seated g.row.P.Denot). m.0.draws.empty) (c.load_lane.ensures.loaded.without c.requires.free.turn) ∙ own_empty v c.number-own.result c.load_lane.result number zero

pub returns-clause-kept : goal.returns-clause-kept
returns-clause-kept g c = subst (λ (m : Seated g.row.P.Denot). Kept c.args.seat.now.inner.me.0 m.0) (sym (c.load_lane.ensures.loaded.without c.requires.free.turn)) (kept_lane c.args.seat.now.inner.me.0 c.number-own.result c.load_lane.result)

pub returns-clause-free : goal.returns-clause-free
returns-clause-free g c = subst (λ (m : Seated g.row.P.Denot). IsFree m) (sym (c.load_lane.ensures.loaded.without c.requires.free.turn)) record { turn = c.requires.free.turn; flight = c.requires.free.flight; slots = c.requires.free.slots }
