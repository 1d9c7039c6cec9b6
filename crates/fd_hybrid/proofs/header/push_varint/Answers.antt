use Rattle.std.proofs.Common.{arith, refl}
use Rattle.fd_hybrid.proofs.Varints.{wrote, wrote_last}
use Rattle.fd_hybrid.proofs.header.push_varint.Goals as goal

pub loop-rest-preserved : goal.loop-rest-preserved
loop-rest-preserved c = λ tail h.
    wrote c.args.out.now c.loop-rest.out c.push.new.self tail c.loop-rest.rest _ _ c.args.number
    c.loop-rest.invariant c.loop-rest-test.true refl refl c.in_ok-push.ensures.ok h

pub returns : goal.returns
returns c =
    wrote_last c.args.out.now c.loop-rest.out c.push-2.new.self c.loop-rest.rest _ c.args.number
    c.loop-rest.invariant (omega arith) refl c.in_ok-push-2.ensures.ok
