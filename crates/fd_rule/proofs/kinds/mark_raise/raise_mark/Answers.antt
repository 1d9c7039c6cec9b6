use Rattle.std.proofs.Common.{rules}
use Rattle.fd_rule.proofs.MarkRaises.{allows_mark_raise}
use Rattle.fd_rule.proofs.kinds.mark_raise.raise_mark.Goals as goal

pub store-requires : goal.store-requires
store-requires g c = (search rules, search rules, allows_mark_raise _ _ _ _ _ _ _ _ (search rules) c.requires.may)
