use Rattle.std.proofs.Common.{◌++◌, ap, ◌∙◌}
use Rattle.std.proofs.lemmas.Result.{IfOk-weaker, IfErr-weaker, err_from_is_err_and}
use Rattle.fd_rows.proofs.Refusals.{series_first, series_after, series_same}
use Rattle.fd_rows.proofs.body.with_series.Goals as goal

pub returns-in_err-own-clause-err : goal.returns-in_err-own-clause-err
returns-in_err-own-clause-err c =
    let p = err_from_is_err_and c.from_residual.result c.from_residual.ensures.1 in
    rw (p.1, p.2) (λ free. series_first c.args.at c.args.rows.rows c.args.series.now c.in_err-own.field-0.0 (c.in_err-own.ensures.err free))

pub returns-clause-none : goal.returns-clause-none
returns-clause-none c =
    let after = series_after c.args.at c.args.rows.rows c.args.series.now c.in_ok-of.of.series c.in_ok-own.ensures.labels c.in_ok-own.ensures.name (c.in_ok-of.ensures ∙ c.in_ok-own.ensures.ok) in
    IfOk-weaker c.with_messages.result _ _ (λ more h. after ∙ h) c.with_messages.ensures.none

pub returns-clause-ok : goal.returns-clause-ok
returns-clause-ok c =
    let same = series_same c.args.series.now c.in_ok-of.of.series (c.in_ok-of.ensures ∙ c.in_ok-own.ensures.ok) in
    IfOk-weaker c.with_messages.result _ _ (λ more h. h ∙ ap (λ xs. c.args.rows.rows ++ xs) same) c.with_messages.ensures.ok

pub returns-clause-err : goal.returns-clause-err
returns-clause-err c =
    let after = series_after c.args.at c.args.rows.rows c.args.series.now c.in_ok-of.of.series c.in_ok-own.ensures.labels c.in_ok-own.ensures.name (c.in_ok-of.ensures ∙ c.in_ok-own.ensures.ok) in
    IfErr-weaker c.with_messages.result _ _ (λ e h free. after ∙ h free) c.with_messages.ensures.err
