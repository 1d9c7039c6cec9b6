use Rattle.fd_keeper.proofs.RecoveryLaws.{recovers_alike, leads_further, history_further}
use Rattle.fd_keeper.proofs.laws.recovery_laws.Goals as goal

pub returns-clause-alike : goal.returns-clause-alike
returns-clause-alike c = λ files image closed active gate was same log. recovers_alike files image closed active gate was same log

pub returns-clause-further : goal.returns-clause-further
returns-clause-further c = λ files closed frames lead is rotated. leads_further files closed frames lead is rotated

pub returns-clause-history : goal.returns-clause-history
returns-clause-history c = λ closed frames. history_further closed frames
