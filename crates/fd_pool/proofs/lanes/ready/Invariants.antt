use Rattle.fd_rule.specs.Seats.{IsSameSeat}
use Rattle.fd_pool.specs.Kept.{IsFree, Kept}
use Rattle.fd_pool.proofs.lanes.ready.Given as goal

abbrev pub invariant-loop : goal.invariant-loop
invariant-loop g l =
    (goal.iterator-loop g).can_next l.iterator' × (goal.iterator-loop g).is_finite l.iterator' × Kept l.fn.seat.inner.me.0 l.seat.inner.me.0 × IsFree l.seat.inner.me × IsSameSeat l.fn.seat l.seat
