use Rattle.std.proofs.Common.{◌≡◌, ◌≤◌, take}
use Rattle.fd_codes.specs.Picks.{present}
use Rattle.fd_codes.proofs.picks.present_in.Given as goal

abbrev pub invariant-loop-level : goal.invariant-loop-level
invariant-loop-level l = (l.count ≡ present (take l.level-index l.levels)) × (l.count ≤ l.level-index)
