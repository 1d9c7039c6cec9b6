use Rattle.fd_keeper.proofs.RecoveryLaws.{not_both}
use Rattle.fd_keeper.proofs.laws.recovery_or_damage.Goals as goal

pub returns : goal.returns
returns c = λ files closed active file at a b. not_both c.one_log.ensures.frames files c.log_or_damage.ensures closed active file at a b
