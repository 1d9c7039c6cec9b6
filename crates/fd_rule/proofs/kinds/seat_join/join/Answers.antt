use Rattle.std.proofs.Common.{rules}
use Rattle.fd_rule.proofs.SeatJoins.{allows_join}
use Rattle.fd_rule.proofs.kinds.seat_join.join.Goals as goal

pub join_seat-requires : goal.join_seat-requires
join_seat-requires g c = (search rules, search rules, search rules, search rules, allows_join _ _ _ _ _ _ _ _ (search rules) (search rules) c.requires.may)
