use Rattle.std.proofs.Common.{◌≡◌, map, take}
use Rattle.fd_codes.specs.Picks.{pick_level}
use Rattle.fd_codes.proofs.picks.levels_of.Given as goal

abbrev pub invariant-loop-pick : goal.invariant-loop-pick
invariant-loop-pick l = l.levels.items ≡ map pick_level (take l.pick-index l.picks)
