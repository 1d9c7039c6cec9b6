use Rattle.std.proofs.Common.{rules}
use Rattle.fd_rule.proofs.FloorRaises.{allows_floor_raise}
use Rattle.fd_rule.proofs.kinds.floor_raise.raise_floor.Goals as goal

pub fetch_max-requires : goal.fetch_max-requires
fetch_max-requires g c = (search rules, search rules, allows_floor_raise _ _ _ _ _ _ _ _ (search rules) c.requires.may)
