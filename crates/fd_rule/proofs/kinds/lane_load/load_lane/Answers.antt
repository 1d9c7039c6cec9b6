use Rattle.std.proofs.Common.{rules, refl}
use Rattle.fd_rule.proofs.LaneLoads.{allows_lane_load}
use Rattle.fd_rule.proofs.kinds.lane_load.load_lane.Goals as goal

pub load-requires : goal.load-requires
load-requires g c = (search rules, search rules, allows_lane_load _ _ _ _ _ _ _ c.args.lane _ refl (search rules) c.requires.may)

pub returns-clause-loaded : goal.returns-clause-loaded
returns-clause-loaded g c = c.load.ensures.2.2 c.args.lane refl
