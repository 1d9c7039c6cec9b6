use Rattle.std.proofs.Common.{rules}
use Rattle.fd_rule.proofs.PinSteps.{allows_settlement}
use Rattle.fd_rule.proofs.kinds.pin_settlement.settle.Goals as goal

pub store-requires : goal.store-requires
store-requires g c = (search rules, search rules, allows_settlement _ _ _ _ _ _ c.args.seat.now.number _ _ (search rules) (search rules) c.requires.may)
