use Rattle.std.proofs.Common.{◌∙◌, sym}
use Rattle.fd_shelf.proofs.Runs.{first_loose_at}
use Rattle.fd_shelf.proofs.replacement.first_loose.Goals as goal

pub returns-then-not-sealed : goal.returns-then-not-sealed
returns-then-not-sealed g c =
    first_loose_at g.P.Held.means c.args.parts.now c.loop-at.at c.lo.result c.index-parts-at.result c.loop-at-test.true c.index-parts-at.is
    c.loop-at.invariant (sym c.sealed.ensures ∙ c.if-not-sealed.true) c.lo.ensures
