use Rattle.std.proofs.Common.{rules}
use Rattle.fd_rule.proofs.SyncedLoads.{allows_synced_load}
use Rattle.fd_rule.proofs.kinds.synced_load.load_synced.Goals as goal

pub load-requires : goal.load-requires
load-requires g c = (search rules, search rules, allows_synced_load _ _ _ _ _ _ _ (search rules))
