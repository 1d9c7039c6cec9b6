use Rattle.std.proofs.Common.{◌≡◌}
use Rattle.fd_rule.specs.Seats.{IsSameSeat}
use Rattle.test_table.specs.Seats.{AtRest}
use Rattle.test_table.proofs.pins.limit.Given as goal

abbrev pub invariant-loop-at : goal.invariant-loop-at
invariant-loop-at l = (l.seat.inner.me.0.pinning.limit ≡ l.limit) × (l.seat.inner.me.0.pinning.next ≡ l.at) × IsSameSeat l.fn.seat l.seat × (AtRest l.fn.seat.inner.me → AtRest l.seat.inner.me) × (l.seat.inner.me.0.place ≡ l.fn.seat.inner.me.0.place)
