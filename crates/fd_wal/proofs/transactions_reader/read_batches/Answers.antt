use Rattle.std.proofs.Common.{ap, arith}
use Rattle.std.specs.Prelude.{Err}
use Rattle.fd_wal.specs.Frames.{IsOrdered}
use Rattle.fd_wal.specs.Reading.{batch_at, many_at}
use Rattle.fd_wal.specs.Runs.{rows_in}
use Rattle.fd_wal.proofs.Faults.{handed_on}
use Rattle.fd_wal.proofs.Many.{refuses, is_done}
use Rattle.fd_wal.proofs.BatchReading.{collects_more}
use Rattle.fd_wal.proofs.transactions_reader.read_batches.Goals as goal

pub loop-at-preserved : goal.loop-at-preserved
loop-at-preserved c = collects_more c.args.first c.args.count c.loop-at.at c.loop-at.batches c.push.new.self _ c.loop-at.cursor c.read_batch.new.cursor (many_at batch_at c.args.count c.args.cursor.now) c.loop-at-test.true c.loop-at.invariant c.in_ok-batch.ensures.found c.in_ok-batch.ensures.small (omega arith) c.in_ok-push.ensures.ok

pub returns-in_err-batch-clause-refused : goal.returns-in_err-batch-clause-refused
returns-in_err-batch-clause-refused c malformed all rest is each =
    let fault = handed_on c.from_residual-in_err-batch.result c.in_err-batch.field-0.0 c.from_residual-in_err-batch.ensures.1 malformed in
    refuses batch_at IsOrdered (rows_in c.loop-at.batches) c.args.count c.loop-at.at c.loop-at.cursor (many_at batch_at c.args.count c.args.cursor.now) c.loop-at-test.true
    (λ rows after read ordered. c.in_err-batch.ensures.refused (ap Err fault) rows after read ordered) c.loop-at.invariant.read all rest is each

pub returns-clause-found : goal.returns-clause-found
returns-clause-found c = is_done batch_at (rows_in c.loop-at.batches) c.args.count c.loop-at.at c.loop-at.cursor (many_at batch_at c.args.count c.args.cursor.now) c.loop-at-test.false c.loop-at.invariant.read
