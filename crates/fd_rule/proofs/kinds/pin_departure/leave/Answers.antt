use Rattle.std.proofs.Common.{rules}
use Rattle.fd_rule.proofs.PinSteps.{allows_departure}
use Rattle.fd_rule.proofs.kinds.pin_departure.leave.Goals as goal

pub store-requires : goal.store-requires
store-requires g c = (search rules, search rules, allows_departure _ _ _ _ _ _ c.args.seat.now.number c.requires.pinned.0 _ (search rules) (search rules) c.requires.pinned.1)
