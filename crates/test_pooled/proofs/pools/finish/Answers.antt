use Rattle.fd_rule.specs.Seats.{base_seats, base_table}
use Rattle.test_pooled.proofs.Passes.{seats_rested}
use Rattle.test_pooled.proofs.pools.finish.Goals as goal

pub finish-requires-clause-rested : goal.finish-requires-clause-rested
finish-requires-clause-rested g c lives longer = let base = c.args.pool.base in seats_rested (base_table base) (base_seats base) c.args.passes c.requires.passes
