use Rattle.std.proofs.Common.{◌++◌, ap, ◌∙◌}
use Rattle.std.proofs.lemmas.Result.{on_ok_weaker}
use Rattle.fd_codes.proofs.PageLaws.{fit_indexes, adds_indexes}
use Rattle.fd_codes.proofs.pick_pages.put_indexes.Goals as goal

pub runs_of-requires-clause-fit : goal.runs_of-requires-clause-fit
runs_of-requires-clause-fit c =
    fit_indexes c.args.required c.args.size c.width_of-width.result c.args.picks.now c.as_slice.result.now (c.as_slice.ensures.value ∙ c.in_ok-indexes.ensures) c.width_of-width.ensures.width c.requires.within

pub returns : goal.returns
returns c = on_ok_weaker c.extend.result (λ e.
    adds_indexes c.args.size c.width_of-width.result c.args.picks.now c.as_slice.result.now c.in_ok-runs.runs c.args.out.now c.push.new.self c.extend.new.self c.width_of-width.ensures.width c.width_of-width.ensures.most c.requires.few
    (c.as_slice.ensures.value ∙ c.in_ok-indexes.ensures) c.in_ok-runs.ensures c.in_ok-push.ensures.ok (e ∙ ap (λ b. c.push.new.self ++ b) c.as_slice-2.ensures)) c.extend.ensures.ok
