use Rattle.std.proofs.Common.{rules, sym, ap, ◌∙◌, subst}
use Rattle.fd_rule.specs.Kinds.BatchLanding.{MayLand}
use Rattle.fd_rule.specs.Tables.{Seated}
use Rattle.fd_rule.specs.View.{View}
use Rattle.fd_rule.proofs.Stay.{held_first}
use Rattle.fd_rule.proofs.BatchLandings.{allows_batch_landing}
use Rattle.fd_kinds.specs.Parts.{PartMeaning}
use Rattle.fd_rule.proofs.kinds.batch_landing.land.Goals as goal

pub store-requires : goal.store-requires
store-requires g c = let m = c.exchange.ensures.3 in let v = ap (λ (x : Seated g.row.P.Denot). x.0) m in let may = subst (λ (x : View). MayLand (g.P.Held.means c.args.part) x.draws) (sym v) c.requires.may in (
  search rules,
  search rules,
  allows_batch_landing _ _ _ _ _ _ c.args.seat.now.number c.lo-number.result c.args.part _ (search rules) (search rules) (c.lo-number.ensures ∙ ap (λ (x : PartMeaning). x.lo) may.part) may (held_first (ap (λ (x : Seated g.row.P.Denot). x.1) m)),
)
