use Rattle.std.proofs.Common.{arith, ap, sym, ◌∙◌, ◌<◌, ◌-◌, length}
use Rattle.std.proofs.lemmas.List.{length-map, get_or-map}
use Rattle.fd_shelf.proofs.Places.{each_more, placed_behind, placed_before}
use Rattle.fd_shelf.proofs.queue.place_of.Goals as goal

pub loop-at-preserved : goal.loop-at-preserved
loop-at-preserved g c =
    let inside : c.loop-at.at - 1 < length c.args.waiting.now.items = omega (arith, c.loop-at-test.true, c.loop-at.invariant.0) in (
      omega (arith, c.loop-at.invariant.0),
      each_more (λ p. c.args.number < p.lo) c.loop-at.at (g.P.Held.means c.index.result.now) _ c.loop-at-test.true
          (rw (length-map c.args.waiting.now.items g.P.Held.means) c.loop-at.invariant.0)
          (get_or-map g.P.Held.means c.args.waiting.now.items (c.loop-at.at - 1) c.index.result.now _ inside ∙ ap g.P.Held.means (sym c.index.ensures))
          (rw (sym c.lo.ensures) c.if-number-lo.true) c.loop-at.invariant.1,
    )

pub returns-else-number-lo-clause-place : goal.returns-else-number-lo-clause-place
returns-else-number-lo-clause-place g c =
    let inside : c.loop-at.at - 1 < length c.args.waiting.now.items = omega (arith, c.loop-at-test.true, c.loop-at.invariant.0) in
    λ part same. placed_behind part c.args.number c.loop-at.at c.requires.0 (g.P.Held.means c.index.result.now) _ same c.requires.1 c.loop-at-test.true
    (rw (length-map c.args.waiting.now.items g.P.Held.means) c.loop-at.invariant.0)
    (get_or-map g.P.Held.means c.args.waiting.now.items (c.loop-at.at - 1) c.index.result.now _ inside ∙ ap g.P.Held.means (sym c.index.ensures))
    (rw (sym c.lo.ensures) (omega (arith, c.if-number-lo.false))) c.loop-at.invariant.1

pub returns-after-loop-at-clause-place : goal.returns-after-loop-at-clause-place
returns-after-loop-at-clause-place g c =
    λ part same. placed_before part c.args.number c.loop-at.at _ (omega (arith, c.loop-at-test.false)) same c.loop-at.invariant.1
