use Rattle.std.proofs.Common.{refl}
use Rattle.fd_api.proofs.demands.decide_batch.Goals as goal

pub returns-in-Ok : goal.returns-in-Ok
returns-in-Ok c = rw c.in-Ok.ensures.ok.0 (_, c.in-Ok.ensures.ok.1, refl)
