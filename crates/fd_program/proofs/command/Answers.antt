use Rattle.fd_program.proofs.command.Goals as goal

pub returns-in-Ok-clause-words : goal.returns-in-Ok-clause-words
returns-in-Ok-clause-words g c = rw c.in-Ok.is (rw c.from.ensures c.run.ensures.words)
