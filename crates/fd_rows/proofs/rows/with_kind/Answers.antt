use Rattle.std.proofs.Common.{◌++◌, ap, sym, ◌∙◌}
use Rattle.std.proofs.lemmas.List.{append-nil}
use Rattle.std.proofs.lemmas.Result.{IfOk-weaker}
use Rattle.fd_rows.specs.Rows.{value_rows}
use Rattle.fd_rows.proofs.RowSteps.{one_value, no_value}
use Rattle.fd_rows.proofs.rows.with_kind.Goals as goal

pub returns-in-Some : goal.returns-in-Some
returns-in-Some c =
    let rows = c.args.rows in
    let f = value_rows c.args.series.now c.args.survey.now c.args.sample.now in
    let values = c.args.sample.now.values in
    IfOk-weaker c.with_value.result _ _ (λ more h t there. h t there ∙ ap (λ xs. rows ++ xs) (sym (one_value f t values c.args.kind c.in-Some.value.now (sym c.in-Some.ensures)))) c.with_value.ensures

pub returns-in-None : goal.returns-in-None
returns-in-None c =
    let rows = c.args.rows in
    let f = value_rows c.args.series.now c.args.survey.now c.args.sample.now in
    λ t there. sym (ap (λ xs. rows ++ xs) (no_value f t c.args.sample.now.values c.args.kind (sym c.in-None.ensures)) ∙ append-nil rows)
