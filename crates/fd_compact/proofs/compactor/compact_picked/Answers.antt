use Rattle.std.proofs.Common.{arith, ◌≡◌, ◌<◌, ◌∙◌, length, map, ap, sym, subst}
use Rattle.fd_part.specs.Parts.{part_meaning}
use Rattle.fd_shelf.specs.Runs.{AreSealable}
use Rattle.fd_shelf.specs.Steps.{loose_upto, lowest, highest}
use Rattle.fd_shelf.specs.Replacement.{IsChanged}
use Rattle.fd_compact.proofs.LooseParts.{two_are_some}
use Rattle.fd_compact.proofs.compactor.compact_picked.Goals as goal

pub sealed_run-requires-clause-sealable : goal.sealed_run-requires-clause-sealable
sealed_run-requires-clause-sealable c =
    let book = c.args.shelf.now.book in
    let two : 1 < length c.args.picked.now = omega (arith, c.if-parts-lt-FEWEST.false, ap length c.as_slice-parts.ensures) in
    subst AreSealable (sym (ap (map (λ i. part_meaning i.part)) c.as_slice-parts.ensures ∙ c.requires))
    (c.level0_laws.ensures.sealable (two_are_some (λ i. part_meaning i.part) c.args.picked.now (loose_upto book c.args.limit) c.requires two))

pub put-requires-clause-free : goal.put-requires-clause-free
put-requires-clause-free c =
    let book = c.args.shelf.now.book in
    let parts = loose_upto book c.args.limit in
    let two : 1 < length c.args.picked.now = omega (arith, c.if-parts-lt-FEWEST.false, ap length c.as_slice-parts.ensures) in
    let same : map (λ i. part_meaning i.part) c.as_slice-parts.result.now ≡ parts = ap (map (λ i. part_meaning i.part)) c.as_slice-parts.ensures ∙ c.requires in
    λ n changed. c.level0_laws.ensures.free (two_are_some (λ i. part_meaning i.part) c.args.picked.now parts c.requires two) n
    (subst (λ hi. IsChanged (lowest parts) hi book.active n) (c.in_ok-sealed.ensures.hi ∙ ap highest same)
    (subst (λ lo. IsChanged lo c.in_ok-sealed.sealed.hi book.active n) (c.in_ok-sealed.ensures.lo ∙ ap lowest same) changed))
