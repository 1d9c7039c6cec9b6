use Rattle.std.proofs.Common.{◌≡◌}
use Rattle.test_table.specs.Seats.{AtRest}
use Rattle.fd_rule.specs.Seats.{IsSameSeat}
use Rattle.test_table.proofs.writes.write_swept.Given as goal

abbrev pub invariant-loop : goal.invariant-loop
invariant-loop l = AtRest l.seat.inner.me × IsSameSeat l.fn.seat l.seat × (l.seat.inner.me.0.place ≡ l.fn.seat.inner.me.0.place)
