use Rattle.std.proofs.Common.{◌≡◌}
use Rattle.test_table.specs.Seats.{AtRest}
use Rattle.fd_rule.specs.Seats.{IsSameSeat}
use Rattle.test_table.proofs.writes.write_one.Given as goal

abbrev pub invariant-loop : goal.invariant-loop
invariant-loop g l =
    (goal.iterator-loop g).can_next l.iterator' × (goal.iterator-loop g).is_finite l.iterator' × AtRest l.seat.inner.me × IsSameSeat l.fn.seat l.seat × (l.seat.inner.me.0.place ≡ l.fn.seat.inner.me.0.place)
