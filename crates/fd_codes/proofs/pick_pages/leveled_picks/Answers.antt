use Rattle.std.proofs.Common.{ℕ, List, sym, ap, subst, ◌∙◌}
use Rattle.fd_codes.specs.Picks.{spread}
use Rattle.fd_codes.specs.Codes.{ArePicks}
use Rattle.fd_codes.proofs.HeaderLaws.{page_done, page_is}
use Rattle.fd_codes.proofs.pick_pages.leveled_picks.Goals as goal

pub returns-clause-only : goal.returns-clause-only
returns-clause-only c = λ there p.
    let indexed = subst (λ n. ArePicks c.args.size n c.args.bytes.now there) (sym c.present_in.ensures) p in
    let same = page_is c.in_ok-picks.picks there (c.in_ok-picks.ensures.only there indexed) in
    ap (λ (xs : List ℕ). page_done xs) (c.in_ok-spread_of.ensures ∙ ap (spread c.args.levels.now) (c.as_slice.ensures ∙ same))
