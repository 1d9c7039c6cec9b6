use Rattle.std.proofs.Common.{◌++◌, length, ap, ◌∙◌, arith}
use Rattle.std.proofs.lemmas.Result.{on_ok_weaker}
use Rattle.fd_pages.specs.Columns.{sized}
use Rattle.fd_codes.proofs.PageLaws.{fit_levels, levels_short, adds_levels}
use Rattle.fd_codes.proofs.pick_pages.put_levels.Goals as goal

pub runs_of-requires-clause-fit : goal.runs_of-requires-clause-fit
runs_of-requires-clause-fit c = fit_levels c.args.picks.now c.as_slice.result.now (c.as_slice.ensures.value ∙ c.in_ok-levels.ensures)

pub put_sized-requires : goal.put_sized-requires
put_sized-requires c =
    let short = levels_short c.args.picks.now c.as_slice.result.now c.in_ok-runs.runs c.requires.few (c.as_slice.ensures.value ∙ c.in_ok-levels.ensures) c.in_ok-runs.ensures in
    omega (arith, short, ap length c.as_slice-2.ensures)

pub returns : goal.returns
returns c = on_ok_weaker c.put_sized.result (λ e.
    adds_levels c.args.picks.now c.as_slice.result.now c.in_ok-runs.runs c.args.out.now c.put_sized.new.out c.requires.few (c.as_slice.ensures.value ∙ c.in_ok-levels.ensures) c.in_ok-runs.ensures
    (e ∙ ap (λ b. c.args.out.now ++ sized b) c.as_slice-2.ensures)) c.put_sized.ensures
