use Rattle.fd_rows.proofs.BatchLaws.{one_batch}
use Rattle.fd_rows.proofs.laws.batch_laws.Goals as goal

pub returns : goal.returns
returns c = record { one = one_batch c.row_order_laws.ensures.total c.row_order_laws.ensures.same }
