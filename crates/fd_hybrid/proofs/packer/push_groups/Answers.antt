use Rattle.std.proofs.Common.{List, ℕ, sym, subst}
use Rattle.fd_hybrid.specs.Format.{Fit}
use Rattle.fd_hybrid.proofs.RunWrites.{fit_front, fit_behind, group_written, group_left, as_width}
use Rattle.fd_hybrid.proofs.packer.push_groups.Goals as goal

pub push_digits-requires-clause-fit : goal.push_digits-requires-clause-fit
push_digits-requires-clause-fit c =
    let fit = fit_front c.args.width 8 c.loop.rest.now c.loop.invariant.fit in
    let group = subst (λ (xs : List ℕ). Fit c.args.width xs) (sym c.next_group.ensures.group) fit in
    subst (λ (w : ℕ). Fit w c.next_group.result.0.now) (sym c.from.ensures) group

pub loop-preserved : goal.loop-preserved
loop-preserved c = record {
  fit = subst (λ (xs : List ℕ). Fit c.args.width xs) (sym c.next_group.ensures.behind) (fit_behind c.args.width 8 c.loop.rest.now c.loop.invariant.fit);
  so_far = group_written c.args.width c.args.groups c.loop.counter c.loop.rest.now c.next_group.result.0.now c.next_group.result.1.now c.loop.out c.push_digits.new.out _
      c.loop-test.true c.next_group.ensures.group c.next_group.ensures.behind
      (as_width c.args.width c.from-in-loop.result c.from.result c.loop.out c.push_digits.new.out c.next_group.result.0.now c.from-in-loop.ensures c.from.ensures c.in_ok-push_digits.ensures) c.loop.invariant.so_far;
  left = group_left c.args.groups c.loop.counter c.loop.rest.now c.next_group.result.1.now _ c.loop-test.true c.next_group.ensures.behind c.loop.invariant.left;
}
