use Rattle.std.proofs.Common.{◌≡◌, take, map}
use Rattle.std.specs.Option.{unwrap_or}
use Rattle.fd_pprof.specs.Winners.{place_from}
use Rattle.fd_pprof.proofs.numbers.numbers_of.Given as goal

abbrev pub invariant-loop-text : goal.invariant-loop-text
invariant-loop-text l = l.numbers ≡ map (λ t. unwrap_or (place_from 0 l.texts t) 0) (take l.text-index l.texts)
