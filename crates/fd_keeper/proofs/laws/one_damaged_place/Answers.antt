use Rattle.fd_keeper.proofs.RecoveryLaws.{same_file_damaged, same_place_damaged}
use Rattle.fd_keeper.proofs.laws.one_damaged_place.Goals as goal

pub returns-clause-file : goal.returns-clause-file
returns-clause-file c = λ files file other at place a b. same_file_damaged c.one_log.ensures.frames files c.log_or_damage.ensures file other at place a b

pub returns-clause-place : goal.returns-clause-place
returns-clause-place c = λ files file other at place a b. same_place_damaged c.one_log.ensures.frames files c.log_or_damage.ensures c.one_damage.ensures file other at place a b
