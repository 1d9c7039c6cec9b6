use Rattle.fd_api.proofs.sessions.give_up.Goals as goal

pub returns-clause-sent : goal.returns-clause-sent
returns-clause-sent g c = (c.send_short.result, c.send_short.ensures.sent, c.send_short.ensures.cause)
