use Rattle.fd_rule.specs.Seats.{IsSameSeat}
use Rattle.test_pool.specs.Rests.{AtRest}
use Rattle.test_pool.proofs.writes.write_swept.Given as goal

abbrev pub invariant-loop : goal.invariant-loop
invariant-loop g l = AtRest l.seat.inner.me × IsSameSeat l.fn.seat l.seat
