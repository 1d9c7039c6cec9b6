use Rattle.fd_pool.proofs.TurnSteps.{may_give_up}
use Rattle.fd_pool.proofs.turns.give_up.Goals as goal

pub give_turn-requires-clause-may : goal.give_turn-requires-clause-may
give_turn-requires-clause-may g c lives longer = may_give_up c.args.shelf c.args.seat.now.inner.me c.requires.hand
