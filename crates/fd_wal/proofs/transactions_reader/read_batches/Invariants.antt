use Rattle.fd_wal.specs.Reading.{batch_at, many_at}
use Rattle.fd_wal.proofs.BatchReading.{Collects}
use Rattle.fd_wal.proofs.transactions_reader.read_batches.Given as goal

abbrev pub invariant-loop-at : goal.invariant-loop-at
invariant-loop-at l = Collects l.first l.count l.at l.batches l.cursor (many_at batch_at l.count l.fn.cursor)
