use Rattle.std.proofs.Common.{◌≡◌}
use Rattle.test_pooled.proofs.stores.write_many.Given as goal

abbrev pub invariant-loop : goal.invariant-loop
invariant-loop g l = (l.store.table ≡ l.fn.store.table) × (l.store.seats ≡ l.fn.store.seats)
