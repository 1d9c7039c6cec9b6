use Rattle.std.proofs.Common.{◌≡◌, ◌<◌, suc, map, take, All}
use Rattle.fd_codes.proofs.picks.picks_of.Given as goal

abbrev pub invariant-loop-index : goal.invariant-loop-index
invariant-loop-index l = (l.picks ≡ map suc (take l.index-index l.indexes)) × All (λ index. index < l.size) (take l.index-index l.indexes)
