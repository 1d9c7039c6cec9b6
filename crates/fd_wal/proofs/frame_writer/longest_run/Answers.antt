use Rattle.std.proofs.Common.{◌≡◌, ◌<◌, length, get_or, arith, ap, ◌∙◌}
use Rattle.fd_wal.proofs.Sizes.{longest_stops, longest_all, run_size}
use Rattle.fd_wal.proofs.frame_writer.longest_run.Goals as goal

pub returns-then-size-more-gt-MOST_PAYLOAD_BYTES-clause-run : goal.returns-then-size-more-gt-MOST_PAYLOAD_BYTES-clause-run
returns-then-size-more-gt-MOST_PAYLOAD_BYTES-clause-run g c =
    let l = c.loop-transaction in
    let xs = c.args.transactions.now in
    let lt : l.count < length xs = omega (arith, l.invariant.counted, c.loop-transaction-test.true) in
    let is : c.transaction-item.result ≡ get_or xs l.count c.transaction-item.result = c.transaction-item.is ∙ ap (λ i. get_or xs i c.transaction-item.result) (omega (arith, l.invariant.counted)) in
    longest_stops g.T.Transaction.spelling xs l.count l.size c.size-more.result c.transaction-item.result lt is c.size-more.ensures.value c.size-more.ensures.small l.invariant.sized l.invariant.fits c.if-size-more-gt-MOST_PAYLOAD_BYTES.true

pub returns-then-size-more-gt-MOST_PAYLOAD_BYTES-clause-size : goal.returns-then-size-more-gt-MOST_PAYLOAD_BYTES-clause-size
returns-then-size-more-gt-MOST_PAYLOAD_BYTES-clause-size g c = run_size g.T.Transaction.spelling c.args.transactions.now c.loop-transaction.count c.loop-transaction.size c.loop-transaction.invariant.sized

pub returns-clause-run : goal.returns-clause-run
returns-clause-run g c =
    let l = c.loop-transaction in
    longest_all g.T.Transaction.spelling c.args.transactions.now l.count l.size (omega (arith, l.invariant.counted, c.loop-transaction-test.false)) (omega (arith, l.invariant.counted, l.auto.transaction-index-end)) c.requires.some l.invariant.sized l.invariant.fits

pub returns-clause-size : goal.returns-clause-size
returns-clause-size g c = run_size g.T.Transaction.spelling c.args.transactions.now c.loop-transaction.count c.loop-transaction.size c.loop-transaction.invariant.sized
