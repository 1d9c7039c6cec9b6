use Rattle.std.proofs.Common.{rules, ap}
use Rattle.fd_rule.specs.declared.slot.SlotValue.TheVariants.{Home}
use Rattle.fd_rule.proofs.Stay.{held_first}
use Rattle.fd_rule.proofs.TurnTries.{allows_turn_try}
use Rattle.fd_rule.proofs.kinds.turn_try.take_turn.Goals as goal

pub compare_exchange-found-requires : goal.compare_exchange-found-requires
compare_exchange-found-requires g c = (search rules, search rules, allows_turn_try _ _ _ _ c.book_laws.ensures.count _ _ _ _ (search rules) (search rules))

pub exchange-requires : goal.exchange-requires
exchange-requires g c = let t = c.compare_exchange-found.ensures.2.0 c.if-found-ne0.false in (search rules, (Home t.0, held_first (ap (λ m. m.1) t.1)))
