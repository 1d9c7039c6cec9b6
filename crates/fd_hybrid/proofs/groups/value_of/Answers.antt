use Rattle.std.proofs.Common.{arith}
use Rattle.fd_hybrid.specs.Digits.{ahead}
use Rattle.fd_hybrid.proofs.DigitQueue.{took, took_none, gave, left}
use Rattle.fd_hybrid.proofs.groups.value_of.Goals as goal

pub loop-bits-preserved-then-bits-bytes : goal.loop-bits-preserved-then-bits-bytes
loop-bits-preserved-then-bits-bytes c = record {
  few = omega arith;
  same = took 8 c.args.bytes.now c.loop-bits.bits.at c.loop-bits.bits.held c.loop-bits.bits.count c.with-bits.result.at c.with-bits.result.held c.with-bits.result.count
      c.from.result (ahead 8 c.args.bytes.now c.args.bits.at c.args.bits.held c.args.bits.count)
      c.if-bits-bytes.true c.from.ensures c.with-bits.ensures.at c.with-bits.ensures.held c.with-bits.ensures.count c.loop-bits.invariant.same;
}

pub loop-bits-preserved : goal.loop-bits-preserved
loop-bits-preserved c = record {
  few = omega arith;
  same = took_none 8 c.args.bytes.now c.loop-bits.bits.at c.loop-bits.bits.held c.loop-bits.bits.count
      c.with-bits-else-bits-bytes.result.at c.with-bits-else-bits-bytes.result.held c.with-bits-else-bits-bytes.result.count
      (ahead 8 c.args.bytes.now c.args.bits.at c.args.bits.held c.args.bits.count)
      c.if-bits-bytes.false c.with-bits-else-bits-bytes.ensures.at c.with-bits-else-bits-bytes.ensures.held c.with-bits-else-bits-bytes.ensures.count c.loop-bits.invariant.same;
}

pub returns-clause-value : goal.returns-clause-value
returns-clause-value c = gave 8 c.args.bytes.now c.loop-bits.bits.at c.loop-bits.bits.held c.loop-bits.bits.count c.args.width c.lowest.result
    (ahead 8 c.args.bytes.now c.args.bits.at c.args.bits.held c.args.bits.count) (omega arith) c.lowest.ensures c.loop-bits.invariant.same

pub returns-clause-rest : goal.returns-clause-rest
returns-clause-rest c = left 8 c.args.bytes.now c.loop-bits.bits.at c.loop-bits.bits.held c.loop-bits.bits.count c.args.width
    c.without.result.at c.without.result.held c.without.result.count
    (ahead 8 c.args.bytes.now c.args.bits.at c.args.bits.held c.args.bits.count) c.without.ensures.at c.without.ensures.held c.without.ensures.count c.loop-bits.invariant.same
