use Rattle.fd_codes.proofs.PageLaws.{required_all, required_spelled, seen_back}
use Rattle.fd_codes.proofs.pick_pages.required_picks.Goals as goal

pub returns-clause-found : goal.returns-clause-found
returns-clause-found c = required_all c.args.size c.args.count c.args.body.now c.picks_in.result c.picks_in.ensures.found

pub returns-clause-only : goal.returns-clause-only
returns-clause-only c = λ texts cells same h.
    let s = required_spelled texts c.args.size c.args.count cells c.args.body.now same h in
    seen_back texts c.picks_in.result s.0 cells (c.picks_in.ensures.only s.0 s.1) s.2
