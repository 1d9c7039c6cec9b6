use Rattle.fd_rule.specs.Seats.{IsSameSeat}
use Rattle.fd_pooled.specs.Pooling.{IsResting}
use Rattle.fd_pooled.specs.Steps.{Looks}
use Rattle.fd_pooled.proofs.sweeps.sweep_upto.Given as goal

abbrev pub invariant-loop : goal.invariant-loop
invariant-loop g l =
    (goal.iterator-loop g).can_next l.iterator' × (goal.iterator-loop g).is_finite l.iterator' × Looks l.fn.seat.inner.me.0 l.seat.inner.me.0 × IsResting l.seat.inner.me × IsSameSeat l.fn.seat l.seat
