use Rattle.std.proofs.Common.{rules}
use Rattle.fd_rule.proofs.Announces.{allows_announcement}
use Rattle.fd_rule.proofs.kinds.announcement.announce.Goals as goal

pub store-requires : goal.store-requires
store-requires g c = (search rules, search rules, allows_announcement _ _ _ _ _ _ _ _ (search rules) c.requires.may)
