use Rattle.std.proofs.Common.{rules}
use Rattle.fd_rule.proofs.SeatSplits.{allows_split}
use Rattle.fd_rule.proofs.kinds.seat_split.split.Goals as goal

pub split_seat-inner-requires : goal.split_seat-inner-requires
split_seat-inner-requires g c = (search rules, search rules, allows_split _ _ _ _ _ _ (search rules) c.requires.may)
