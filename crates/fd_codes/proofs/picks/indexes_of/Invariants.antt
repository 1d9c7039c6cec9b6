use Rattle.std.proofs.Common.{◌≡◌, take}
use Rattle.fd_codes.specs.Picks.{pick_indexes}
use Rattle.fd_codes.proofs.picks.indexes_of.Given as goal

abbrev pub invariant-loop-pick : goal.invariant-loop-pick
invariant-loop-pick l = l.indexes.items ≡ pick_indexes (take l.pick-index l.picks)
