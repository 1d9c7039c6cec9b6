use Rattle.std.proofs.Common.{◌≡◌, false}
use Rattle.test_durable.proofs.writes.fill.Given as goal

abbrev pub invariant-loop-number : goal.invariant-loop-number
invariant-loop-number l = l.store.failed ≡ false
