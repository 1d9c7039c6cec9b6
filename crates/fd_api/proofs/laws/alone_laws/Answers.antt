use Rattle.fd_api.proofs.AloneLaws.{alone_runs, alone_session}
use Rattle.fd_api.proofs.laws.alone_laws.Goals as goal

pub returns-clause-runs : goal.returns-clause-runs
returns-clause-runs c = alone_runs

pub returns-clause-session : goal.returns-clause-session
returns-clause-session c = alone_session
