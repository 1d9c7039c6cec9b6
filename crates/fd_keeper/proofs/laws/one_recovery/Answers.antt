use Rattle.fd_keeper.proofs.RecoveryLaws.{same_blocks_recovered, same_active_recovered, same_history_recovered}
use Rattle.fd_keeper.proofs.laws.one_recovery.Goals as goal

pub returns-clause-closed : goal.returns-clause-closed
returns-clause-closed c = λ files closed others active frames a b. same_blocks_recovered c.one_log.ensures.frames files closed others active frames a b

pub returns-clause-active : goal.returns-clause-active
returns-clause-active c = λ files closed others active frames a b. same_active_recovered c.one_log.ensures.frames files closed others active frames a b

pub returns-clause-history : goal.returns-clause-history
returns-clause-history c = λ files history other a b. same_history_recovered c.one_log.ensures.frames files history other a b
