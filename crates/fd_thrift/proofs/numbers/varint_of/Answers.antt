use Rattle.std.proofs.Common.{◌+◌, ◌*◌, ◌-◌, ◌<◌, ◌^◌, arith, nat_lt, ◌&&◌, ◌==◌, sym, ◌∙◌}
use Rattle.fd_thrift.proofs.VarintLoop.{stays_below, within_64, goes_on_below, weight_left, goes_on, at_first, not_refused}
use Rattle.fd_thrift.proofs.numbers.varint_of.Goals as goal

pub loop-k-init : goal.loop-k-init
loop-k-init c = record { left = c.requires; weight = omega arith; below = omega arith; so_far = at_first c.args.bits c.args.bytes.now }

below : (c : goal.Else-is_refused) → c.loop-k.value + c.loop-k.weight * c.from-byte.result < 2 ^ c.args.bits
below c =
    let l = c.loop-k in
    let small = not_refused (nat_lt 0 l.k && (c.from-byte.result == 0)) l.left c.from-byte.result (sym c.is_refused.ensures ∙ c.if-is_refused.false) in
    stays_below l.weight l.value l.left c.args.bits c.from-byte.result l.invariant.weight l.invariant.below small

pub overflow_mul-result : goal.overflow_mul-result
overflow_mul-result c = omega (arith, below c, within_64 c.args.bits c.requires)

pub overflow_add-result : goal.overflow_add-result
overflow_add-result c = omega (arith, below c, within_64 c.args.bits c.requires)

more : (c : goal.Else-left-le7) → (c.loop-k.value + c.loop-k.weight * (c.from-byte.result - 128) < c.loop-k.weight * 128) × (c.loop-k.weight * 128 < 2 ^ 64)
more c =
    let l = c.loop-k in
    let byte : c.from-byte.result < 256 = omega (arith, c.type_inv.bytes l.k) in
    goes_on_below l.weight l.value l.left c.args.bits c.from-byte.result l.invariant.weight c.requires l.invariant.below c.if-left-le7.false byte

pub overflow_mul-value : goal.overflow_mul-value
overflow_mul-value c = omega (arith, more c)

pub overflow_add-value : goal.overflow_add-value
overflow_add-value c = omega (arith, more c)

pub overflow_mul-weight : goal.overflow_mul-weight
overflow_mul-weight c = omega (arith, more c)

pub loop-k-preserved : goal.loop-k-preserved
loop-k-preserved c =
    let l = c.loop-k in
    record {
      left = omega (arith, l.invariant.left);
      weight = weight_left l.weight l.left c.args.bits l.invariant.weight c.if-left-le7.false;
      below = (more c).0;
      so_far = goes_on (nat_lt 0 l.k) l.value l.weight l.left c.from-byte.result l.k c.args.bytes.now _ c.loop-k-test.true c.from-byte.ensures c.if-byte-lt128.false c.if-left-le7.false l.invariant.so_far;
    }
