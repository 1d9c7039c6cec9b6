use Rattle.std.proofs.Common.{◌≤◌, length, arith}
use Rattle.std.proofs.lemmas.Result.{err_from_is_err_and}
use Rattle.fd_rows.proofs.Refusals.{body_refused, body_done, batch_small}
use Rattle.fd_rows.proofs.body.batch.Goals as goal

pub returns-in_err-rows-clause-err : goal.returns-in_err-rows-clause-err
returns-in_err-rows-clause-err c =
    let p = err_from_is_err_and c.from_residual.result c.from_residual.ensures.1 in
    rw (p.1, p.2) (λ free. body_refused c.args.body.now c.as_slice-series-items.result.now c.loop-i.rows.rows c.loop-i.i c.series-item.result c.in_err-rows.field-0.0 c.as_slice-series-items.ensures c.loop-i-test.true c.series-item.is c.loop-i.invariant.rest (c.in_err-rows.ensures.err free))

pub returns-clause-ok : goal.returns-clause-ok
returns-clause-ok c =
    let past : length c.as_slice-series-items.result.now ≤ c.loop-i.i = omega arith in
    body_done c.args.body.now c.as_slice-series-items.result.now c.loop-i.rows.rows c.in_ok-batch.batch.rows c.loop-i.i c.as_slice-series-items.ensures past c.loop-i.invariant.rows c.loop-i.invariant.rest c.in_ok-batch.ensures

pub returns-clause-small : goal.returns-clause-small
returns-clause-small c =
    batch_small c.loop-i.rows.rows c.in_ok-batch.batch.rows c.loop-i.rows.bytes c.loop-i.rows.counted c.loop-i.rows.small c.in_ok-batch.ensures
