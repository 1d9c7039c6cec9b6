use Rattle.fd_wal.proofs.Sizes.{adds_more, adds_all}
use Rattle.fd_wal.proofs.frame_writer.put_all.Goals as goal

pub loop-transaction-preserved : goal.loop-transaction-preserved
loop-transaction-preserved g c =
    adds_more g.T.Transaction.spelling g.T.Transaction.is_sound c.args.out.now c.loop-transaction.out c.put.new.out c.args.transactions.now c.loop-transaction.transaction-index c.transaction-item.result c.loop-transaction-test.true c.transaction-item.is
    c.loop-transaction.invariant c.in_ok-put.ensures.ok c.in_ok-put.ensures.sound

pub returns-clause-ok : goal.returns-clause-ok
returns-clause-ok g c =
    (adds_all g.T.Transaction.spelling g.T.Transaction.is_sound c.args.out.now c.loop-transaction.out c.args.transactions.now c.loop-transaction.transaction-index c.loop-transaction-test.false c.loop-transaction.invariant).0

pub returns-clause-sound : goal.returns-clause-sound
returns-clause-sound g c =
    (adds_all g.T.Transaction.spelling g.T.Transaction.is_sound c.args.out.now c.loop-transaction.out c.args.transactions.now c.loop-transaction.transaction-index c.loop-transaction-test.false c.loop-transaction.invariant).1
