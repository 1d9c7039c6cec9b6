use Rattle.std.proofs.Common.{arith, sym, ◌∙◌}
use Rattle.fd_shelf.proofs.FirstLoose.{first_then}
use Rattle.fd_shelf.proofs.NumberLaws.{keeps_then}
use Rattle.fd_shelf.proofs.shelf.Shelf.advance.Goals as goal

pub loop-preserved : goal.loop-preserved
loop-preserved g c =
    let more = c.settle_next.ensures.more c.loop-test.true in (
      sym more.0 ∙ c.loop.invariant.0,
      c.settle_next.ensures.kept ∙ c.loop.invariant.1,
      omega (arith, c.loop.invariant.2, c.settle_next.ensures.rises),
      keeps_then _ _ _ c.loop.invariant.3 c.settle_next.ensures.numbers,
      first_then _ _ _ c.loop.invariant.4 c.settle_next.ensures.first,
    )
