use Rattle.std.proofs.Common.{arith}
use Rattle.std.proofs.lemmas.Result.{err_from_is_err_and}
use Rattle.fd_hybrid.proofs.Loops.{refuses, group_read, group_refused, groups_read}
use Rattle.fd_hybrid.proofs.unpacker.groups_of.Goals as goal

pub returns-in_err-rest : goal.returns-in_err-rest
returns-in_err-rest c =
    let p = err_from_is_err_and c.from_residual.result c.from_residual.ensures.1 in
    rw (p.1, p.2) (refuses _ _ _
    (λ h. group_refused c.args.width c.args.groups c.loop.counter c.loop.left c.loop.values c.args.values.now c.loop.rest.now _ _ c.loop-test.true h c.loop.invariant)
    c.in_err-rest.ensures)

pub loop-preserved : goal.loop-preserved
loop-preserved c =
    group_read c.args.width c.args.groups c.loop.counter c.loop.left c.saturating_sub-left.result c.loop.values c.add_group.new.values c.loop.rest.now c.in_ok-rest.rest.now _
    c.loop-test.true c.saturating_sub-left.ensures c.in_ok-rest.ensures c.loop.invariant

pub returns : goal.returns
returns c = groups_read c.args.width c.args.groups c.loop.counter c.loop.left c.loop.values c.loop.rest.now _ (omega arith) c.loop.invariant
