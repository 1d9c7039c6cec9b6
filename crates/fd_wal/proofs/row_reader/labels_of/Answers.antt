use Rattle.fd_wal.proofs.Rows.{shared_some}
use Rattle.fd_wal.proofs.row_reader.labels_of.Goals as goal

pub returns-in-Some : goal.returns-in-Some
returns-in-Some c = shared_some c.args.pairs c.in_ok-of.field-0 c.in-Some.labels c.in-Some.ensures c.in_ok-of.ensures
