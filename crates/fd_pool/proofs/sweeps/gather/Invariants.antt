use Rattle.fd_rule.specs.Seats.{IsSameSeat}
use Rattle.fd_pool.specs.Sweeps.{Sweeping}
use Rattle.fd_pool.proofs.sweeps.gather.Given as goal

abbrev pub invariant-loop-lane : goal.invariant-loop-lane
invariant-loop-lane g l = Sweeping l.fn.seat.board.now.shared.key.seats l.fn.seat.inner.me.0 l.seat.inner.me l.shelf l.lane × IsSameSeat l.fn.seat l.seat
