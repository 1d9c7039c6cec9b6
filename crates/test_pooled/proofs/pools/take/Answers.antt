use Rattle.fd_rule.specs.Seats.{base_seats, base_table}
use Rattle.test_pooled.proofs.Passes.{seats_taken}
use Rattle.test_pooled.proofs.pools.take.Goals as goal

pub returns-clause-passes : goal.returns-clause-passes
returns-clause-passes c = let base = c.args.pool.now.base in (seats_taken (base_table base) (base_seats base) c.args.passes.now c.pop.new.self c.pop.result c.pop.ensures c.requires.passes).0

pub returns-clause-pass : goal.returns-clause-pass
returns-clause-pass c = let base = c.args.pool.now.base in (seats_taken (base_table base) (base_seats base) c.args.passes.now c.pop.new.self c.pop.result c.pop.ensures c.requires.passes).1
