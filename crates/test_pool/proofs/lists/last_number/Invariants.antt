use Rattle.std.proofs.Common.{◌≡◌, map, drop}
use Rattle.fd_shelf.specs.Steps.{highest, last_hi}
use Rattle.stubs.specs.Stubs.{stub_meaning}
use Rattle.test_pool.proofs.lists.last_number.Given as goal

abbrev pub invariant-loop-placed : goal.invariant-loop-placed
invariant-loop-placed l = highest (map (λ i. stub_meaning i.part) l.parts) ≡ last_hi l.last (map (λ i. stub_meaning i.part) (drop l.placed-index l.parts))
