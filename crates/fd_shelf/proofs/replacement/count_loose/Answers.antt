use Rattle.std.proofs.Common.{arith, ap, sym, ◌∙◌, ◌<◌, ◌-◌, length}
use Rattle.std.proofs.lemmas.List.{length-map, get_or-map}
use Rattle.fd_shelf.specs.Books.{IsLoose}
use Rattle.fd_shelf.proofs.LooseCounts.{counted_behind, counted_all}
use Rattle.fd_shelf.proofs.Places.{each_more}
use Rattle.fd_shelf.proofs.replacement.count_loose.Goals as goal
use Rattle.fd_shelf.proofs.replacement.count_loose.Goals.{then-loop-at-test+else-not-sealed, else-loop-at-test}

pub loop-at-preserved : goal.loop-at-preserved
loop-at-preserved g c =
    let inside : c.loop-at.at - 1 < length c.args.parts.now = omega (arith, c.loop-at-test.true, c.loop-at.invariant.0) in (
      omega (arith, c.loop-at.invariant.0),
      each_more IsLoose c.loop-at.at (g.P.Held.means c.index-parts-at.result) _ c.loop-at-test.true (rw (length-map c.args.parts.now g.P.Held.means) c.loop-at.invariant.0)
          (get_or-map g.P.Held.means c.args.parts.now (c.loop-at.at - 1) c.index-parts-at.result _ inside ∙ ap g.P.Held.means (sym c.index-parts-at.is))
          (sym c.sealed.ensures ∙ c.if-not-sealed.true) c.loop-at.invariant.1,
    )

pub returns : goal.returns
returns g c =
    elim c.loop-at-test.branch [
      | then-loop-at-test+else-not-sealed w ↦
          (let inside : c.loop-at.at - 1 < length c.args.parts.now = omega (arith, w.loop-at-test.true, c.loop-at.invariant.0) in
          counted_behind g.P.Held.means c.args.parts.now c.loop-at.at (g.P.Held.means w.index-parts-at.result) c.requires w.loop-at-test.true c.loop-at.invariant.0
          (get_or-map g.P.Held.means c.args.parts.now (c.loop-at.at - 1) w.index-parts-at.result _ inside ∙ ap g.P.Held.means (sym w.index-parts-at.is))
          (sym w.sealed.ensures ∙ w.if-not-sealed.false) c.loop-at.invariant.1)
      | else-loop-at-test w ↦
          counted_all g.P.Held.means c.args.parts.now c.loop-at.at (omega (arith, w.loop-at-test.false)) c.loop-at.invariant.1
    ]
