use Rattle.fd_kinds.proofs.StoreLaws.{numbers_rise}
use Rattle.fd_kinds.proofs.laws.store_laws.Goals as goal

pub returns : goal.returns
returns c = record { numbers = numbers_rise }
