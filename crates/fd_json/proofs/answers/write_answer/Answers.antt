use Rattle.fd_json.proofs.answers.write_answer.Goals as goal

pub returns-in-Values : goal.returns-in-Values
returns-in-Values c = rw c.in-Values.is c.two_members-in-Values.ensures
