use Rattle.std.proofs.Common.{◌++◌, ◌+◌, ◌<◌, ◌≤◌, length, drop, ap, sym, ◌∙◌, arith}
use Rattle.std.specs.List.{flat_map}
use Rattle.std.proofs.lemmas.List.{drop_all, append-nil}
use Rattle.fd_rows.specs.Rows.{sample_rows, profile_rows}
use Rattle.fd_rows.proofs.RowSteps.{stands, from_slot, more_rows}
use Rattle.fd_rows.proofs.rows.with_rows.Goals as goal

pub loop-at-preserved : goal.loop-at-preserved
loop-at-preserved c =
    let f = sample_rows c.args.series.now c.args.survey.now in
    let samples = c.args.survey.now.samples in
    let rows = c.loop-at.more in
    let i = c.loop-at.at in
    let within : i < length samples = omega (arith, c.len-at-end.ensures) in
    let s = stands samples i within in
    let all = ap (λ xs. rows ++ flat_map f xs) (sym (from_slot samples i s.item s.is)) ∙ c.loop-at.invariant in
    more_rows rows (f s.item) (flat_map f (drop (i + 1) samples)) (c.args.rows ++ flat_map f samples) c.in_ok-more.more all (c.in_ok-more.ensures s.item s.is)

pub returns : goal.returns
unfolding profile_rows
returns c =
    let f = sample_rows c.args.series.now c.args.survey.now in
    let samples = c.args.survey.now.samples in
    let i = c.loop-at.at in
    let past : length samples ≤ i = omega (arith, c.len-at-end.ensures) in
    sym (ap (λ xs. c.loop-at.more ++ flat_map f xs) (drop_all i samples past) ∙ append-nil c.loop-at.more) ∙ c.loop-at.invariant
