use Rattle.fd_api.proofs.handler.handle.Goals as goal

pub returns-clause-handles : goal.returns-clause-handles
returns-clause-handles g c = c.carry_out.ensures.handles c.args.request c.decide.ensures
