use Rattle.std.proofs.Common.{rules, ◌≡◌, ◌<◌, ℕ, List, length, subst, sym, ap, ◌∙◌, append-nil, ◌++◌, take}
use Rattle.fd_kinds.specs.Meaning.{distinct}
use Rattle.fd_lists.specs.Texts.{text_cmp}
use Rattle.fd_scan.specs.DistinctTexts.{SeesTexts, texts_at}
use Rattle.fd_scan.proofs.Outcomes.{on_err}
use Rattle.fd_scan.proofs.TextTables.{sees_none, texts_more}
use Rattle.fd_scan.proofs.texts.add_texts_at.Goals as goal

pub returns-in_err-seen-clause-err : goal.returns-in_err-seen-clause-err
returns-in_err-seen-clause-err c =
    on_err c.from_residual.result
    ((k : ℕ)
    × ((items : List (List ℕ)) → c.args.found.now.keys ≡ distinct text_cmp items
    → c.args.found.now.keys ≡ distinct text_cmp (items ++ texts_at c.args.cells.now (take k c.args.places.now))))
    (0, λ items held. held ∙ ap (distinct text_cmp) (sym (append-nil items)))

pub loop-at-init : goal.loop-at-init
loop-at-init c = λ items held.
    subst (SeesTexts c.args.cells.now c.args.found.now.keys c.in_ok-seen.seen.items) (sym (append-nil items))
    (sees_none c.args.cells.now c.args.found.now.keys c.in_ok-seen.seen.items items c.in_ok-seen.ensures held)

pub loop-at-preserved : goal.loop-at-preserved
loop-at-preserved c =
    let within : c.loop-at.at-index < length c.args.places.now = search rules in
    λ items held.
    subst (SeesTexts c.args.cells.now c.add_once.new.found.keys c.add_once.new.seen.items) (texts_more c.args.cells.now items c.args.places.now c.loop-at.at-index 0 within)
    (c.in_ok-add_once.ensures.ok (items ++ texts_at c.args.cells.now (take c.loop-at.at-index c.args.places.now)) (c.loop-at.invariant items held))

pub returns-in_err-add_once-clause-err : goal.returns-in_err-add_once-clause-err
returns-in_err-add_once-clause-err c =
    on_err c.from_residual-in_err-add_once.result
    ((k : ℕ)
    × ((items : List (List ℕ)) → c.args.found.now.keys ≡ distinct text_cmp items
    → c.add_once.new.found.keys ≡ distinct text_cmp (items ++ texts_at c.args.cells.now (take k c.args.places.now)))) (
      c.loop-at.at-index,
      λ items held. c.in_err-add_once.ensures.err ∙ (c.loop-at.invariant items held).held,
    )
