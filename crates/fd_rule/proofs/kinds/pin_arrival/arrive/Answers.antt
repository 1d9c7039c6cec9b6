use Rattle.std.proofs.Common.{rules}
use Rattle.fd_rule.proofs.PinSteps.{allows_arrival}
use Rattle.fd_rule.proofs.kinds.pin_arrival.arrive.Goals as goal

pub store-requires : goal.store-requires
store-requires g c = (search rules, search rules, allows_arrival _ _ _ _ _ _ c.args.seat.now.number _ (search rules) (search rules) c.requires.idles)
