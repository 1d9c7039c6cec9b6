use Rattle.std.proofs.lemmas.Result.{err_from_is_err_and}
use Rattle.fd_wal.specs.Reading.{many_at}
use Rattle.fd_wal.proofs.Many.{goes_on, ends, is_done}
use Rattle.fd_wal.proofs.cursor.Cursor.many.Goals as goal

pub loop-preserved : goal.loop-preserved
loop-preserved g c = rw c.in_ok-push.ensures.ok (goes_on g.T.Spelled.read_at c.loop.items c.args.count c.loop.counter c.loop.self c.in_ok-read.field-0 c.read.new.cursor (many_at g.T.Spelled.read_at c.args.count c.args.self.now) c.loop-test.true c.in_ok-read.ensures c.loop.invariant)

pub returns-in_err-read : goal.returns-in_err-read
returns-in_err-read g c =
    let p = err_from_is_err_and c.from_residual-in_err-read.result c.from_residual-in_err-read.ensures.1 in
    rw (p.1, p.2) (ends c.in_err-read.field-0.0 g.T.Spelled.read_at c.loop.items c.args.count c.loop.counter c.loop.self (many_at g.T.Spelled.read_at c.args.count c.args.self.now) c.loop-test.true c.in_err-read.ensures c.loop.invariant)

pub returns : goal.returns
returns g c = is_done g.T.Spelled.read_at c.loop.items c.args.count c.loop.counter c.loop.self (many_at g.T.Spelled.read_at c.args.count c.args.self.now) c.loop-test.false c.loop.invariant
