use Rattle.fd_rule.specs.Seats.{base_seats, base_table}
use Rattle.test_pooled.proofs.Passes.{seats_first}
use Rattle.test_pooled.proofs.pools.open_over.Goals as goal

pub returns-in-Ok : goal.returns-in-Ok
returns-in-Ok c = let started = c.in-Ok.started in let base = started.pool.base in seats_first (base_table base) (base_seats base) started.passes c.args.shelf 0 c.args.seats c.in-Ok.ensures.passes c.in-Ok.ensures.views
