use Rattle.std.proofs.Common.{arith}
use Rattle.fd_hybrid.specs.Digits.{ahead}
use Rattle.fd_hybrid.proofs.DigitLaws.{wrote_digit, all_written}
use Rattle.fd_hybrid.proofs.groups.push_digits.Goals as goal

pub loop-preserved : goal.loop-preserved
loop-preserved c = record {
  held = c.byte_of-byte.ensures.held;
  so_far = wrote_digit 8 c.args.size c.loop.counter c.byte_of-byte.result.0 c.loop.out c.push.new.self
      (ahead c.args.width c.args.values.now c.loop.bits.at c.loop.bits.held c.loop.bits.count) _ _ c.loop-test.true
      c.byte_of-byte.ensures.byte c.byte_of-byte.ensures.rest c.in_ok-push.ensures.ok c.loop.invariant.so_far;
}

pub returns : goal.returns
returns c = all_written 8 c.args.size c.loop.counter c.loop.out
    (ahead c.args.width c.args.values.now c.loop.bits.at c.loop.bits.held c.loop.bits.count) _ (omega arith) c.loop.invariant.so_far
