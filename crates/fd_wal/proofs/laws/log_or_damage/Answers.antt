use Rattle.fd_wal.proofs.LogLaws.{not_both_by}
use Rattle.fd_wal.proofs.laws.log_or_damage.Goals as goal

pub returns : goal.returns
returns c = λ bytes first frames gate at a b. not_both_by bytes first frames gate at a b
