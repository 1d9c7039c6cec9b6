use Rattle.std.proofs.Common.{rules}
use Rattle.fd_rule.proofs.PinSteps.{allows_scan}
use Rattle.fd_rule.proofs.kinds.pin_scan.scan_pin.Goals as goal

pub load-pin-requires : goal.load-pin-requires
load-pin-requires g c = (search rules, search rules, allows_scan _ _ _ _ _ _ c.args.seat.now.scan _ (search rules) (search rules) (search rules))
