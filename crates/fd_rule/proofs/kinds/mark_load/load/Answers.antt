use Rattle.std.proofs.Common.{rules, false}
use Rattle.fd_rule.proofs.MarkLoads.{allows_mark_load}
use Rattle.fd_rule.proofs.kinds.mark_load.load.Goals as goal

pub load-requires : goal.load-requires
load-requires g c = (search rules, search rules, allows_mark_load _ _ _ _ c.book_laws.ensures.count false _ _ _ (search rules))
