use Rattle.std.proofs.Common.{◌≡◌, ◌-◌, ◌^◌, min, take, map}
use Rattle.std.specs.Prelude.{sum_by}
use Rattle.fd_kinds.specs.RowSize.{pair_size}
use Rattle.fd_pprof.specs.Profile.{pair_of}
use Rattle.fd_pprof.proofs.winners.size_of.Given as goal

abbrev pub invariant-loop-label : goal.invariant-loop-label
invariant-loop-label l = l.size ≡ min (sum_by pair_size (map (pair_of l.texts) (take l.label-index l.labels))) (2 ^ 64 - 1)
