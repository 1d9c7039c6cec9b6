use Rattle.std.proofs.Common.{◌≡◌, ◌≤◌, ◌+◌}
use Rattle.test_table.specs.Seats.{InHand}
use Rattle.fd_rule.specs.Seats.{IsSameSeat}
use Rattle.test_table.proofs.sweeps.gather.Given as goal

abbrev pub invariant-loop-lane : goal.invariant-loop-lane
invariant-loop-lane l = InHand l.shelf l.seat.inner.me × (l.fn.count ≤ l.shelf.spare + l.lane) × IsSameSeat l.fn.seat l.seat × (l.seat.inner.me.0.place ≡ l.fn.seat.inner.me.0.place)
