use Rattle.std.proofs.Common.{◌≡◌, ◌++◌, drop}
use Rattle.fd_codes.specs.Picks.{spread}
use Rattle.fd_codes.proofs.picks.spread_of.Given as goal

abbrev pub invariant-loop-level : goal.invariant-loop-level
invariant-loop-level l = l.all ++ spread (drop l.level-index l.levels) l.left ≡ spread l.levels l.picks
