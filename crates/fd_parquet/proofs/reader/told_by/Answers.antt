use Rattle.std.proofs.Common.{arith}
use Rattle.fd_parquet.proofs.reader.told_by.Goals as goal

pub returns-in-Ok-clause-few : goal.returns-in-Ok-clause-few
returns-in-Ok-clause-few c = omega (arith, c.in-Ok.ensures.few, c.requires)
