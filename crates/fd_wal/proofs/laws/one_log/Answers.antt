use Rattle.fd_wal.proofs.LogLaws.{one_log_by}
use Rattle.fd_wal.proofs.laws.one_log.Goals as goal

pub returns-clause-frames : goal.returns-clause-frames
returns-clause-frames c = λ bytes first frames others gate place a b. (one_log_by bytes first frames others gate place a b).0

pub returns-clause-gate : goal.returns-clause-gate
returns-clause-gate c = λ bytes first frames others gate place a b. (one_log_by bytes first frames others gate place a b).1
