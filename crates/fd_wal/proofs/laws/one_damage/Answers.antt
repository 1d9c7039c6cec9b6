use Rattle.fd_wal.proofs.LogLaws.{one_damage_by}
use Rattle.fd_wal.proofs.laws.one_damage.Goals as goal

pub returns : goal.returns
returns c = λ bytes first at place a b. one_damage_by bytes first at place a b
