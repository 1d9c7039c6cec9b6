use Rattle.std.proofs.Common.{◌≡◌, ℕ, List, []}
use Rattle.fd_rule.specs.Seats.{IsSameSeat}
use Rattle.fd_pool.specs.Turns.{with_refusals}
use Rattle.fd_pool.proofs.turns.wait_for_turn.Given as goal

abbrev pub invariant-loop : goal.invariant-loop
invariant-loop g l =
    (goal.iterator-loop g).can_next l.iterator' × (goal.iterator-loop g).is_finite l.iterator' × ((busy : List ℕ) × (l.seat.inner.me ≡ (with_refusals busy l.fn.seat.inner.me.0, []))) × IsSameSeat l.fn.seat l.seat
