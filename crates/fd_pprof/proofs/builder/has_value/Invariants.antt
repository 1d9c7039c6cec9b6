use Rattle.std.proofs.Common.{◌≡◌, drop, map, not}
use Rattle.std.specs.Prelude.{pos}
use Rattle.std.specs.List.{list_any}
use Rattle.std.specs.Ordering.{int_eq}
use Rattle.fd_pprof.specs.Profile.{signed}
use Rattle.fd_pprof.proofs.builder.has_value.Given as goal

abbrev pub invariant-loop-n : goal.invariant-loop-n
invariant-loop-n l = list_any (λ v. not (int_eq v (pos 0))) (map signed (drop l.n-index l.raw)) ≡ list_any (λ v. not (int_eq v (pos 0))) (map signed l.raw)
