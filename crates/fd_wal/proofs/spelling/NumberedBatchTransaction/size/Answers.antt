use Rattle.std.proofs.Common.{arith}
use Rattle.fd_wal.proofs.Sizes.{rows_length}
use Rattle.fd_wal.proofs.spelling.NumberedBatchTransaction.size.Goals as goal

pub returns-clause-value : goal.returns-clause-value
returns-clause-value c =
    let e = rows_length c.row_spelling_laws.ensures.length c.args.self.now.batch.rows in
    omega (arith, e, c.batch_bytes.ensures, c.requires)
