use Rattle.std.proofs.Common.{rules}
use Rattle.fd_rule.proofs.DrawnLoads.{allows_drawn_load}
use Rattle.fd_rule.proofs.kinds.drawn_load.load_drawn.Goals as goal

pub load-requires : goal.load-requires
load-requires g c = (search rules, search rules, allows_drawn_load _ _ _ _ _ _ _ (search rules))
