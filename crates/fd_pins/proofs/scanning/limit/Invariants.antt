use Rattle.std.proofs.Common.{◌≡◌}
use Rattle.fd_pins.specs.Scans.{IsScan}
use Rattle.fd_rule.specs.Seats.{IsSameSeat}
use Rattle.fd_pins.proofs.scanning.limit.Given as goal

abbrev pub invariant-loop-at : goal.invariant-loop-at
invariant-loop-at g l = IsScan l.at l.fn.seat.inner.me.0 l.l l.seat.inner.me.0 × (l.seat.inner.me.1 ≡ l.fn.seat.inner.me.1) × IsSameSeat l.fn.seat l.seat
