use Rattle.std.proofs.Common.{rules, true}
use Rattle.fd_rule.proofs.MarkLoads.{allows_mark_load}
use Rattle.fd_rule.proofs.kinds.mark_load.open_scan.Goals as goal

pub load-mark-requires : goal.load-mark-requires
load-mark-requires g c = (search rules, search rules, allows_mark_load _ _ _ _ c.book_laws.ensures.count true _ _ _ (search rules))
