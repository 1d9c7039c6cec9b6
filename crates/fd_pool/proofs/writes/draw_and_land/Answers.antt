use Rattle.std.proofs.Common.{rules, arith, sym, ap, ◌∙◌, subst, ◌<◌, length}
use Rattle.fd_kinds.specs.declared.limits.TheConstants.{MOST_NUMBERS}
use Rattle.fd_kinds.specs.Parts.{rows_of}
use Rattle.fd_rule.specs.Kinds.BatchLanding.{MayLand, with_landed}
use Rattle.fd_rule.specs.Kinds.NumberDraw.{MayDraw, with_number}
use Rattle.fd_rule.specs.Lists.{Tops}
use Rattle.fd_rule.specs.Tables.{Seated}
use Rattle.fd_rule.specs.View.{View}
use Rattle.fd_pool.proofs.TurnSteps.{may_draw}
use Rattle.fd_pool.proofs.writes.draw_and_land.Goals as goal

pub draw-number-requires-clause-may : goal.draw-number-requires-clause-may
draw-number-requires-clause-may g c lives longer = let few : c.load_drawn-drawn.result < MOST_NUMBERS = search rules in
    subst (λ (m : Seated g.row.P.Denot). MayDraw m.0.draws) (sym c.load_drawn-drawn.ensures.me) (may_draw c.args.seat.now.inner.me.0 c.load_drawn-drawn.result c.requires.empty c.requires.free.flight few)

pub land-requires-clause-may : goal.land-requires-clause-may
land-requires-clause-may g c lives longer = let some = c.draw-number.ensures.some in
    subst (λ (m : Seated g.row.P.Denot). MayLand (g.P.Held.means c.number.new.self) m.0.draws) (sym c.draw-number.ensures.me) record { flight = λ e. absurd (omega (arith, e, some)); part = c.number.ensures }

pub returns-then-drawn-ge-MOST_NUMBERS-clause-err : goal.returns-then-drawn-ge-MOST_NUMBERS-clause-err
returns-then-drawn-ge-MOST_NUMBERS-clause-err g c = record { loaded = c.load_drawn-drawn.ensures.loaded; many = search rules; becomes = ap (λ (m : Seated g.row.P.Denot). m.0) c.load_drawn-drawn.ensures.me }

pub returns-clause-ok : goal.returns-clause-ok
returns-clause-ok g c = let n = c.draw-number.result in let rows = rows_of (g.P.Held.means c.args.part).rows in let first = ap (λ (m : Seated g.row.P.Denot). m.0) c.load_drawn-drawn.ensures.me in record {
  drawn = c.load_drawn-drawn.result;
  loaded = c.load_drawn-drawn.ensures.loaded;
  few = search rules;
  some = c.draw-number.ensures.some;
  bounded = c.draw-number.ensures.bounded;
  above = subst (λ (v : View). Tops n v.draws.own) first c.draw-number.ensures.above;
  unseen = subst (λ (v : View). length v.seen.history < n) first c.draw-number.ensures.unseen;
  becomes = ap (λ (m : Seated g.row.P.Denot). m.0) c.land.ensures.me ∙ (ap (λ (m : Seated g.row.P.Denot). with_landed m.0) c.draw-number.ensures.me ∙ ap (λ (v : View). with_landed (with_number n rows v)) first);
}
