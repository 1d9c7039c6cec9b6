use Rattle.std.proofs.Common.{◌<◌, ◌-◌, ◌∙◌, cond, ap, arith, List, ℕ, Some}
use Rattle.std.specs.Ordering.{is_eq}
use Rattle.std.specs.BTreeMap.{get}
use Rattle.fd_lists.specs.Texts.{text_cmp}
use Rattle.fd_pprof.proofs.TextNumbers.{place_step}
use Rattle.fd_pprof.proofs.numbers.text_places.Goals as goal

pub loop-i-preserved : goal.loop-i-preserved
loop-i-preserved c =
    let ts = c.args.texts.now in
    let i = c.loop-i.i in
    let x = c.index-texts-i.result in
    let old = λ (t : List ℕ). get text_cmp c.loop-i.places t in
    let some : 0 < i = omega arith in
    record {
      within = omega arith;
      first = λ t. place_step ts i x t (old t) _ c.loop-i.invariant.within some c.index-texts-i.is
          (c.in_ok-insert.ensures.updates.0 t ∙ ap (λ (k : List ℕ). cond (is_eq (text_cmp k t)) (Some (i - 1)) (old t)) c.in_ok-share.ensures) (c.loop-i.invariant.first t);
    }
