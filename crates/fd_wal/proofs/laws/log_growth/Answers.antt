use Rattle.fd_wal.proofs.LogGrowth.{closed_gate, one_more}
use Rattle.fd_wal.proofs.laws.log_growth.Goals as goal

pub returns-clause-closed : goal.returns-clause-closed
returns-clause-closed c = λ bytes tail first frames gate log. closed_gate bytes tail first frames gate log

pub returns-clause-opened : goal.returns-clause-opened
returns-clause-opened c = λ bytes tail first frames gate frame log right. one_more bytes tail first frames gate frame log right
