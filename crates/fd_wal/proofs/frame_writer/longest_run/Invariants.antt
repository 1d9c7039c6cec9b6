use Rattle.std.proofs.Common.{◌≡◌, ◌+◌, ◌*◌, ◌≤◌, take, length}
use Rattle.std.specs.Prelude.{sum_by}
use Rattle.fd_wal.specs.declared.limits.TheConstants.{MOST_PAYLOAD_BYTES}
use Rattle.fd_wal.proofs.frame_writer.longest_run.Given as goal

abbrev pub invariant-loop-transaction : goal.invariant-loop-transaction
invariant-loop-transaction g l = record {
  counted : l.count ≡ l.transaction-index;
  sized : l.size ≡ 14 + sum_by (λ t. length (g.T.Transaction.spelling t)) (take l.count l.transactions);
  few : 4 * l.count ≤ l.size;
  fits : l.size ≤ MOST_PAYLOAD_BYTES;
}
