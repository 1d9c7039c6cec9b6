use Rattle.std.proofs.Common.{rules, sym, ap, subst}
use Rattle.fd_rule.specs.Kinds.TurnReturn.{MayReturn}
use Rattle.fd_rule.specs.Tables.{Seated}
use Rattle.fd_rule.specs.View.{View}
use Rattle.fd_rule.proofs.Stay.{held_first}
use Rattle.fd_rule.proofs.TurnReturns.{allows_turn_return}
use Rattle.fd_rule.proofs.kinds.turn_return.give_turn.Goals as goal

pub store-requires : goal.store-requires
store-requires g c = let m = c.exchange.ensures.3 in let v = ap (λ (x : Seated g.row.P.Denot). x.0) m in (
  search rules,
  search rules,
  allows_turn_return _ _ _ _ _ _ _ c.args.shelf (search rules) c.is_in_order.ensures.book (subst (λ (x : View). MayReturn c.args.shelf x) (sym v) c.requires.may) (held_first (ap (λ (x : Seated g.row.P.Denot). x.1) m)),
)
