use Rattle.std.proofs.Common.{◌<◌, ◌+◌, ◌-◌, ℕ, length, ap, ◌∙◌, arith}
use Rattle.fd_hybrid.specs.Packer.{group_count}
use Rattle.fd_hybrid.specs.Runs.{equal_next}
use Rattle.fd_hybrid.proofs.WholeLoop.{some_there, none_there}
use Rattle.fd_hybrid.proofs.RunWrites.{counted, count_within, counted_all, counted_end}
use Rattle.fd_hybrid.proofs.packer.group_count_of.Goals as goal

pub loop-rest-preserved : goal.loop-rest-preserved
loop-rest-preserved c =
    let n : ℕ = length c.args.values.now in
    let k : ℕ = c.loop-rest.groups in
    let some : 0 < length c.loop-rest.rest.now = some_there _ (length c.loop-rest.rest.now) c.is_empty.ensures c.loop-rest-test.true in
    let few : equal_next c.loop-rest.rest.now < 8 = omega (arith, c.equal_next_of.ensures.value, c.if-equal_next_of-lt8.true) in
    let e = c.next_group.ensures.behind in
    record {
      within = omega (arith, ap length e, count_within n k c.loop-rest.rest.now some c.loop-rest.invariant.within);
      so_far = ap (λ xs. k + 1 + group_count (n - (k + 1)) xs) e ∙ counted n k c.loop-rest.rest.now (group_count n c.args.values.now) some c.loop-rest.invariant.within few c.loop-rest.invariant.so_far;
    }

pub returns-else-equal_next_of-lt8 : goal.returns-else-equal_next_of-lt8
returns-else-equal_next_of-lt8 c =
    counted_all (length c.args.values.now) c.loop-rest.groups c.loop-rest.rest.now (group_count (length c.args.values.now) c.args.values.now) c.loop-rest.invariant.within
    (omega (arith, c.equal_next_of.ensures.value, c.if-equal_next_of-lt8.false)) c.loop-rest.invariant.so_far

pub returns-after-loop-rest : goal.returns-after-loop-rest
returns-after-loop-rest c =
    counted_end (length c.args.values.now) c.loop-rest.groups c.loop-rest.rest.now (group_count (length c.args.values.now) c.args.values.now)
    (none_there _ (length c.loop-rest.rest.now) c.is_empty.ensures c.loop-rest-test.false) c.loop-rest.invariant.so_far
