use Rattle.std.proofs.Common.{◌≡◌, ℕ, ◌-◌, ◌<◌, ◌^◌, length, length-append, Ok, ap, subst, arith}
use Rattle.std.proofs.lemmas.Result.{err_from_is_err_and}
use Rattle.fd_hybrid.specs.Unpacker.{run_at, with_front, Fails}
use Rattle.fd_hybrid.proofs.Loops.{refuses}
use Rattle.fd_hybrid.proofs.WholeLoop.{taken_of, after_taken, run_more, run_refused, ends_early, ends_whole, some_there, none_there}
use Rattle.fd_hybrid.proofs.unpacker.all_of.Goals as goal

pub returns-in_err-before : goal.returns-in_err-before
returns-in_err-before c =
    let p = err_from_is_err_and c.from_residual.result c.from_residual.ensures.1 in
    let some : 0 < length c.loop-rest.rest.now = some_there _ (length c.loop-rest.rest.now) c.is_empty.ensures c.loop-rest-test.true in
    let most : ℕ = c.loop-rest.invariant.so_far.0 in
    let left : ℕ = c.args.count - length c.loop-rest.values in
    let e : c.args.count - c.len.result ≡ left = ap (λ n. c.args.count - n) c.len.ensures in
    let read = subst (λ (n : ℕ). Fails c.in_err-before.field-0.0 (run_at c.args.width n c.loop-rest.before c.loop-rest.rest.now)) e c.in_err-before.ensures in
    rw (p.1, p.2) (refuses _ _ (run_at c.args.width left c.loop-rest.before c.loop-rest.rest.now)
    (λ h. run_refused most c.args.width left c.loop-rest.before c.loop-rest.rest.now c.loop-rest.values _ _ some c.loop-rest.invariant.so_far.1 h c.loop-rest.invariant.so_far.2)
    read)

pub loop-rest-smaller : goal.loop-rest-smaller
loop-rest-smaller c =
    let some : 0 < length c.loop-rest.rest.now = some_there _ (length c.loop-rest.rest.now) c.is_empty.ensures c.loop-rest-test.true in
    let left : ℕ = c.args.count - c.len.result in
    let small : left < 2 ^ 64 = omega arith in
    let t = taken_of c.args.width left c.loop-rest.before c.loop-rest.rest.now c.loop-rest.values c.run_of.new.values c.in_ok-before.field-0-0 c.in_ok-before.field-0-1.now c.in_ok-before.ensures in
    (after_taken c.args.width left c.loop-rest.before c.loop-rest.rest.now c.loop-rest.values c.run_of.new.values c.in_ok-before.field-0-0 c.in_ok-before.field-0-1.now
    c.requires.least small c.loop-rest.invariant.fit some t).0

pub loop-rest-preserved : goal.loop-rest-preserved
loop-rest-preserved c =
    let some : 0 < length c.loop-rest.rest.now = some_there _ (length c.loop-rest.rest.now) c.is_empty.ensures c.loop-rest-test.true in
    let left : ℕ = c.args.count - length c.loop-rest.values in
    let small : left < 2 ^ 64 = omega arith in
    let left_is : c.args.count - c.len.result ≡ left = ap (λ n. c.args.count - n) c.len.ensures in
    let read = subst (λ (n : ℕ). with_front c.loop-rest.values (run_at c.args.width n c.loop-rest.before c.loop-rest.rest.now) ≡ Ok (c.run_of.new.values, (c.in_ok-before.field-0-0, c.in_ok-before.field-0-1.now))) left_is c.in_ok-before.ensures in
    let t = taken_of c.args.width left c.loop-rest.before c.loop-rest.rest.now c.loop-rest.values c.run_of.new.values c.in_ok-before.field-0-0 c.in_ok-before.field-0-1.now read in
    let a = after_taken c.args.width left c.loop-rest.before c.loop-rest.rest.now c.loop-rest.values c.run_of.new.values c.in_ok-before.field-0-0 c.in_ok-before.field-0-1.now
    c.requires.least small c.loop-rest.invariant.fit some t in
    let most : ℕ = c.loop-rest.invariant.so_far.0 in
    let next : c.args.count - length c.run_of.new.values ≡ left - length t.values = omega (arith, ap length t.is, length-append c.loop-rest.values t.values) in
    record {
      few = omega (arith, a.1, c.loop-rest.invariant.few);
      fit = a.2;
      so_far = (
        most - 1,
        omega (arith, a.0, c.loop-rest.invariant.so_far.1),
        run_more most c.args.width left (c.args.count - length c.run_of.new.values) c.loop-rest.before c.loop-rest.rest.now c.loop-rest.values c.run_of.new.values
            c.in_ok-before.field-0-0 c.in_ok-before.field-0-1.now _ some c.loop-rest.invariant.so_far.1 t next c.loop-rest.invariant.so_far.2,
      );
    }

pub returns-then-len-count : goal.returns-then-len-count
returns-then-len-count c =
    let none : length c.loop-rest.rest.now ≡ 0 = none_there _ (length c.loop-rest.rest.now) c.is_empty.ensures c.loop-rest-test.false in
    let left : ℕ = c.args.count - length c.loop-rest.values in
    ends_early c.loop-rest.invariant.so_far.0 c.args.width left c.loop-rest.before c.loop-rest.rest.now c.loop-rest.values _ none (omega (arith, c.if-len-count.true, c.len-2.ensures)) c.loop-rest.invariant.so_far.2

pub returns : goal.returns
returns c =
    let none : length c.loop-rest.rest.now ≡ 0 = none_there _ (length c.loop-rest.rest.now) c.is_empty.ensures c.loop-rest-test.false in
    let left : ℕ = c.args.count - length c.loop-rest.values in
    ends_whole c.loop-rest.invariant.so_far.0 c.args.width left c.loop-rest.before c.loop-rest.rest.now c.loop-rest.values _ none (omega (arith, c.if-len-count.false, c.len-2.ensures)) c.loop-rest.invariant.so_far.2
