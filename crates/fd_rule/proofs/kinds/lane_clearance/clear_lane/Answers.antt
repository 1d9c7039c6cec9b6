use Rattle.std.proofs.Common.{rules, refl}
use Rattle.fd_rule.proofs.BookChanges.{StragglerLaws}
use Rattle.fd_rule.proofs.LaneClearances.{allows_lane_clearance}
use Rattle.fd_rule.proofs.kinds.lane_clearance.clear_lane.Goals as goal

pub store-requires : goal.store-requires
store-requires g c = let laws : StragglerLaws = record { book = c.straggler_laws.ensures.book; batch = c.straggler_laws.ensures.batch; others = c.straggler_laws.ensures.others; history = c.straggler_laws.ensures.history } in
    (search rules, search rules, allows_lane_clearance _ _ _ _ laws _ _ _ c.args.lane c.requires.hand.0 _ refl (search rules) c.requires.turn c.requires.hand.1 c.requires.slots)
