use Rattle.std.proofs.Common.{arith}
use Rattle.fd_hybrid.specs.Digits.{ahead}
use Rattle.fd_hybrid.proofs.DigitQueue.{took, took_none, gave, left}
use Rattle.fd_hybrid.proofs.groups.byte_of.Goals as goal

pub loop-bits-preserved-then-bits-values : goal.loop-bits-preserved-then-bits-values
loop-bits-preserved-then-bits-values c = record {
  few = omega arith;
  same = took c.args.width c.args.values.now c.loop-bits.bits.at c.loop-bits.bits.held c.loop-bits.bits.count c.with-bits.result.at c.with-bits.result.held c.with-bits.result.count
      c.from.result (ahead c.args.width c.args.values.now c.args.bits.at c.args.bits.held c.args.bits.count)
      c.if-bits-values.true c.from.ensures c.with-bits.ensures.at c.with-bits.ensures.held c.with-bits.ensures.count c.loop-bits.invariant.same;
}

pub loop-bits-preserved : goal.loop-bits-preserved
loop-bits-preserved c = record {
  few = omega arith;
  same = took_none c.args.width c.args.values.now c.loop-bits.bits.at c.loop-bits.bits.held c.loop-bits.bits.count
      c.with-bits-else-bits-values.result.at c.with-bits-else-bits-values.result.held c.with-bits-else-bits-values.result.count
      (ahead c.args.width c.args.values.now c.args.bits.at c.args.bits.held c.args.bits.count)
      c.if-bits-values.false c.with-bits-else-bits-values.ensures.at c.with-bits-else-bits-values.ensures.held c.with-bits-else-bits-values.ensures.count c.loop-bits.invariant.same;
}

pub returns-clause-byte : goal.returns-clause-byte
returns-clause-byte c = gave c.args.width c.args.values.now c.loop-bits.bits.at c.loop-bits.bits.held c.loop-bits.bits.count 8 c.lowest.result
    (ahead c.args.width c.args.values.now c.args.bits.at c.args.bits.held c.args.bits.count) (omega arith) c.lowest.ensures c.loop-bits.invariant.same

pub returns-clause-rest : goal.returns-clause-rest
returns-clause-rest c = left c.args.width c.args.values.now c.loop-bits.bits.at c.loop-bits.bits.held c.loop-bits.bits.count 8
    c.without.result.at c.without.result.held c.without.result.count
    (ahead c.args.width c.args.values.now c.args.bits.at c.args.bits.held c.args.bits.count) c.without.ensures.at c.without.ensures.held c.without.ensures.count c.loop-bits.invariant.same
