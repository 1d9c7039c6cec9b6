use Rattle.std.proofs.Common.{◌++◌, ◌∷◌, [], ◌+◌, ◌<◌, ◌≤◌, length, drop, ap, sym, ◌∙◌, arith}
use Rattle.std.specs.List.{flat_map, zip}
use Rattle.std.proofs.lemmas.List.{append-nil}
use Rattle.fd_rows.specs.Rows.{value_rows, sample_rows}
use Rattle.fd_rows.proofs.RowSteps.{stands, zip_step, more_rows, all_taken}
use Rattle.fd_rows.proofs.rows.with_sample.Goals as goal

pub loop-kind-preserved : goal.loop-kind-preserved
loop-kind-preserved c =
    let f = value_rows c.args.series.now c.args.survey.now c.args.sample.now in
    let types = c.args.survey.now.sample_types in
    let values = c.args.sample.now.values in
    let rows = c.loop-kind.more in
    let i = c.loop-kind.kind in
    let within : i < length types = omega (arith, c.kinds-kind-end.ensures) in
    let s = stands types i within in
    let all = ap (λ xs. rows ++ xs) (sym (zip_step f types values i s.item s.is)) ∙ c.loop-kind.invariant in
    more_rows rows (flat_map f (zip (s.item ∷ []) (drop i values))) (flat_map f (zip (drop (i + 1) types) (drop (i + 1) values))) (c.args.rows ++ flat_map f (zip types values)) c.in_ok-more.more all (c.in_ok-more.ensures s.item s.is)

pub returns : goal.returns
unfolding sample_rows
returns c =
    let f = value_rows c.args.series.now c.args.survey.now c.args.sample.now in
    let types = c.args.survey.now.sample_types in
    let i = c.loop-kind.kind in
    let past : length types ≤ i = omega (arith, c.kinds-kind-end.ensures) in
    sym (ap (λ xs. c.loop-kind.more ++ xs) (all_taken f types (drop i c.args.sample.now.values) i past) ∙ append-nil c.loop-kind.more) ∙ c.loop-kind.invariant
