-- What is left where the table is closed.
use Rattle.std.proofs.Common.{◌≡◌, ◌≢◌, ℕ, ◌+◌, ◌<◌, Bool, true, false, cond, List, ◌∷◌, min, sym, refl, ap, ◌∙◌, ⊎_elim, arith, eqb, eq-eqb}
use mathlib.Core.Option.{some}
use lib.ListN.{get_elem?}
use Rattle.atomic_table.specs.Table.{Final}
use Rattle.fd_kinds.specs.Parts.{PartMeaning}
use Rattle.fd_shelf.specs.Books.{Shelved, all_parts}
use Rattle.fd_shelf.specs.Histories.{in_row_order}
use Rattle.fd_shelf.specs.Numbers.{IsIn}
use Rattle.fd_rule.specs.Tables.{TableState}
use Rattle.fd_rule.specs.View.{View, no_view}
use Rattle.fd_rule.specs.Rule.{one_if, count_in, owns, seated, holding, Ruled}
use Rattle.fd_rule.specs.declared.slot.SlotValue.{SlotValue}
use Rattle.fd_rule.specs.declared.slot.SlotValue.TheVariants.{Home}
use Rattle.fd_rule.proofs.Stay.{below}
use Rattle.fd_rule.proofs.Sums.{sum_two, sum_alone}
use Rattle.fd_rule.proofs.Keep.{all_map}
use Rattle.fd_rule.specs.Closing.{IsClosed}
use Rattle.atomic_table.specs.Table.{Seen as IsSeen}

module _ (P : Type 0) (means : P → PartMeaning) (start : Shelved) (seats : ℕ) where
  abbrev Rule : TableState P → Type 0
  Rule = Ruled means start seats

  at_zero : (n : ℕ) → min 1 n ≡ 0 → n ≡ 0
  at_zero n e = omega arith

  by_bool : {F : Type 0} (b : Bool) → (b ≡ true → F) → (b ≡ false → F) → F
  by_bool true f g = f refl
  by_bool false f g = g refl

  -- where one seat has the numbers of all, the others are spent
  spent : (s : TableState P) (r : Rule s) (id : ℕ) (v : View) → get_elem? s.views id ≡ some v → v.place.spent ≡ false → ((k : ℕ) → k < seats → 0 < seated k v) → (j : ℕ) (u : View) → j ≢ id → get_elem? s.views j ≡ some u → u ≡ no_view
  spent s r id v at live all j u other at_j = by_bool u.place.spent (λ gone. (r.lives.known j u at_j).gone gone)
      (λ here. let number = (r.roster.places.known j u at_j).number here in let count = r.roster.count in let inside = below s.views j u at_j in let mine = all j (omega arith) in
      let live_u : seated j u ≡ one_if (eqb u.place.number j) + count_in j u.place.joined = ap (λ b. cond b 0 (count_in j (u.place.number ∷ u.place.joined))) here in
      let one : one_if (eqb u.place.number j) ≡ 1 = ap one_if (eq-eqb u.place.number j number) in
      let two = sum_two (seated j) s.views j id u v other at_j at in let once = r.counts.seats j in absurd (omega arith))

  pub closes : (id : ℕ) (v : View) (ws : List ℕ) (xs : List (SlotValue P)) → v.place.spent ≡ false → v.turn.holds ≡ false → v.draws.flight ≡ 0 → v.draws.empty ≡ true → ((k : ℕ) → k < seats → 0 < seated k v) → Final (IsSeen Rule id v) ws xs
      → (b : Shelved) × (get_elem? xs 0 ≡ some (Home b)) × IsClosed start v b
  closes id v ws xs live free_hand none_flies empty all f = let s = f.0 in let r : Rule s = f.1.0 in let at = f.1.1 in let others = spent s r id v at live all in
      let holders = r.counts.holders in let held_sum = sum_alone holding s.views id v at (λ j u other at_j. ap holding (others j u other at_j)) in let none_holds : one_if v.turn.holds ≡ 0 = ap one_if free_hand in
      let taken : r.g.taken ≡ 0 = at_zero r.g.taken (sym holders ∙ (held_sum ∙ none_holds)) in
      let h = r.home.home taken in let sh : Shelved = record { book = r.g.book; mark = r.g.mark; spare = h.0 } in let d = r.draws.known id v at in let word = d.empty empty in let k = r.saw.known id v at in (
        sh,
        f.4 0 (Home sh) h.1,
        record {
          drawn = r.g.drawn;
          began = r.booked.began;
          seen = k.history;
          others = k.others;
          low = r.order.opening_low;
          once = λ n a b. let t = sum_alone (owns n) s.views id v at (λ j u other at_j. ap (owns n) (others j u other at_j)) in let c = r.counts.numbers n a in omega arith;
          above = all_map v.draws.own (λ o y. y.above) d.own;
          inside = all_map v.draws.own (λ o y. let a = y.above in ⊎_elim (λ z. z) (λ e. absurd (omega arith)) (y.landed (λ e. omega arith))) d.own;
          rows = all_map v.draws.own (λ o y. let a = y.above in let x = ⊎_elim (λ (z : IsIn o.number (all_parts r.g.book)). z) (λ e. absurd (omega arith)) (y.landed (λ e. omega arith)) in r.booked.rows o.number y.above x ∙ ap in_row_order y.rows) d.own;
          held = r.booked.held;
          kept = r.kept.known id v at;
        },
      )
