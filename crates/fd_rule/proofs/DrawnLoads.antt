-- A load of the greatest number drawn keeps the rule.
use Rattle.std.proofs.Common.{◌≡◌, ℕ, ◌+◌, false, set, sym, refl, ap, subst, arith}
use Rattle.std.proofs.Math.Dec.{ltb}
use Rattle.std.proofs.lemmas.Bool.{le-ltb}
use mathlib.Core.Logic.{dite}
use mathlib.Core.Option.{none}
use native.Mathlib.Decide.{dec_lt}
use Rattle.atomic_table.specs.Table.{step, keeps, Allows}
use Rattle.fd_kinds.specs.declared.limits.TheConstants.{MOST_NUMBERS}
use Rattle.fd_kinds.specs.Parts.{PartMeaning}
use Rattle.fd_shelf.specs.Books.{Shelved}
use Rattle.fd_rule.specs.Tables.{TableState, Seated, Sits, after, word}
use Rattle.fd_rule.specs.View.{View}
use Rattle.fd_rule.specs.Rule.{one_if, clearance, Ruled}
use Rattle.fd_rule.proofs.Sets.{length_set, load}
use Rattle.fd_rule.proofs.Sums.{sum_set, sum_most, one_most}
use Rattle.fd_rule.proofs.PinChanges.{pins_same}
use Rattle.fd_rule.proofs.Keep.{upto_later, upto_more, all_map, tops_of, draw_flag, looks}
use Rattle.fd_rule.specs.Kinds.DrawnLoad.{Happens, with_drawn, told}

module _ (P : Type 0) (means : P → PartMeaning) (start : Shelved) (seats : ℕ) where
  abbrev Rule : TableState P → Type 0
  Rule = Ruled means start seats

  keeps_drawn : (s : TableState P) (r : Rule s) (id : ℕ) (v : View) → Sits s id v → Rule (after s 0 (word s 0) s.homes id (with_drawn (word s 0) v))
  keeps_drawn s r id v sits = let at = sits.at in let x : ℕ = word s 0 in let w : View = with_drawn x v in let k = r.saw.known id v at in let d = r.draws.known id v at in let is : x ≡ r.g.drawn = r.words.drawn_is in let low = r.order.marks_drawn in let size = length_set s.views id w in
      let sums = sum_set clearance s.views id v w at in let most = sum_most clearance (set s.views id w) (λ x. one_most x.draws.cleared) in
      looks P means start seats s r id v w (set s.words 0 x) r.g.pin r.g.pinned at sits.live refl refl refl refl
      (λ h. dite (dec_lt x MOST_NUMBERS) (λ yes. omega arith) (λ no. let off : one_if (ltb x MOST_NUMBERS) ≡ 0 = ap one_if (le-ltb x MOST_NUMBERS (omega arith)) in let old = r.counts.room (omega arith) in omega arith))
      (load r.words 0) (draw_flag v.draws (ltb x MOST_NUMBERS) v.draws.empty d.empty d) (r.hands.known id v at)
      record { history = k.history; marks = k.marks; drawns = upto_more r.g.drawn x v.seen.drawns (omega arith) k.drawns; synceds = k.synceds; others = k.others } (r.kept.known id v at) (pins_same r.pins id v w at refl)

  pub drawn_load_event : (id : ℕ) (s t : TableState P) → Rule s → Happens id s t → Rule t
  drawn_load_event id s t r h = subst (λ x. Rule x) (sym h.becomes) (keeps_drawn s r id h.view h.sits)

  pub allows_drawn_load : (slots id : ℕ) (me : Seated P) → me.0.place.spent ≡ false → Allows Rule slots id me 0 (λ n. n) (told (step slots 0 0 0 none) me)
  allows_drawn_load slots id me live s r deep at small = let v : View = me.0 in let x : ℕ = word s 0 in let k = r.saw.known id v at in let d = r.draws.known id v at in let is : x ≡ r.g.drawn = r.words.drawn_is in let low = r.order.marks_drawn in (
    with_drawn x v,
    keeps,
    tt,
    keeps_drawn s r id v record { at = at; live = live },
    (refl, record { marks = upto_later r.g.mark x v.seen.marks (omega arith) k.marks; drawns = upto_later r.g.drawn x v.seen.drawns (omega arith) k.drawns; own = tops_of r.g.drawn (x + 1) v.draws.own (omega arith) (all_map v.draws.own (λ o y. y.below) d.own) }),
  )
