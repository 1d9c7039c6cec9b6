-- Taking in a seat keeps the rule.
use Rattle.std.proofs.Common.{◌≡◌, ◌≢◌, ℕ, ◌+◌, Bool, true, false, ◌||◌, cond, List, ◌∷◌, ◌++◌, length, set, sym, refl, ap, ◌∙◌, subst, ⊎_elim, inl, arith}
use Rattle.std.proofs.Math.Dec.{ltb}
use mathlib.Core.Option.{some}
use lib.ListN.{get_elem?}
use Rattle.atomic_table.specs.Table.{Joins}
use Rattle.atomic_table.proofs.Lists.{set_else}
use Rattle.fd_kinds.specs.Parts.{PartMeaning}
use Rattle.fd_kinds.specs.Stores.{Grows}
use Rattle.fd_shelf.specs.Books.{Shelved}
use Rattle.fd_shelf.specs.Histories.{hist}
use Rattle.fd_shelf.specs.Numbers.{Keeps}
use Rattle.fd_rule.specs.Tables.{TableState, Sits}
use Rattle.fd_rule.specs.View.{View, no_view}
use Rattle.fd_rule.specs.Rule.{Each, place, sum, one_if, count_of, count_in, owns, seated, holding, clearance, splitting, Placed, Owned, PinOk, Ruled}
use Rattle.fd_rule.proofs.Stay.{moves, stays, same}
use Rattle.fd_rule.proofs.Sets.{length_set}
use Rattle.fd_rule.proofs.Sums.{sum_set, sum_two, one_or}
use Rattle.fd_rule.proofs.PinChanges.{pins_scan}
use Rattle.fd_rule.proofs.Keep.{all_map, all_append, count_append, in_append}
use Rattle.fd_rule.specs.Kinds.SeatJoin.{Happens, MayJoin, join_of, longer}

module _ (P : Type 0) (means : P → PartMeaning) (start : Shelved) (seats : ℕ) where
  abbrev Rule : TableState P → Type 0
  Rule = Ruled means start seats

  keeps_join : (s : TableState P) (r : Rule s) (id : ℕ) (v : View) (other : ℕ) (u : View) → Sits s id v → Sits s other u → other ≢ id → MayJoin u → Rule record { words = s.words; homes = s.homes; views = set (set s.views id (join_of v u)) other no_view }
  keeps_join s r id v other u sits other_sits apart may = let w : View = join_of v u in let vs : List View = set s.views id w in let at = sits.at in let v_here = sits.live in let was = other_sits.at in let u_here = other_sits.live in let free_hand = may.turn in let no_flight = may.flight in let empty = may.empty in let idle_now = may.idles in
      let at_other : get_elem? vs other ≡ some u = set_else s.views id other w apart ∙ was in
      let p = r.roster.places.known id v at in let q = r.roster.places.known other u was in let splitter' : ℕ = cond u.place.splits id r.g.splitter in let size = length_set s.views id w in let size' = length_set vs other no_view in
      let d = r.draws.known id v at in let e = r.draws.known other u was in let k = r.saw.known id v at in let l = r.saw.known other u was in let lane_empty = e.empty empty in
      let rests_v = r.pins.rests.known id v at in let rests_u = r.pins.rests.known other u was in
      let summed : (f : View → ℕ) (w_f : ℕ) → f w ≡ w_f → f no_view ≡ 0 → sum f (set vs other no_view) + f v + f u ≡ sum f s.views + w_f = λ f w_f a z. let x = sum_set f s.views id v w at in let y = sum_set f vs other u no_view at_other in omega arith in record {
        g = record r.g { splitter = splitter' };
        words = r.words;
        order = r.order;
        home = r.home;
        booked = r.booked;
        sealed = r.sealed;
        lanes = record { ok = r.lanes.ok; unsplit = λ j h. r.lanes.unsplit j (omega arith); none_looked = r.lanes.none_looked };
        counts = record {
          numbers = λ n h. let x = summed (owns n) (count_of n v.draws.own + count_of n u.draws.own) (count_append n v.draws.own u.draws.own) refl in let old = r.counts.numbers n h in omega arith;
          seats = λ j. let live_v : seated j v ≡ count_in j (v.place.number ∷ v.place.joined) = ap (λ b. cond b 0 (count_in j (v.place.number ∷ v.place.joined))) v_here in
              let live_u : seated j u ≡ count_in j (u.place.number ∷ u.place.joined) = ap (λ b. cond b 0 (count_in j (u.place.number ∷ u.place.joined))) u_here in
              let live_w : seated j w ≡ count_in j (v.place.number ∷ (v.place.joined ++ u.place.number ∷ u.place.joined)) = ap (λ b. cond b 0 (count_in j (v.place.number ∷ (v.place.joined ++ u.place.number ∷ u.place.joined)))) v_here in
              let cut = in_append j v.place.joined (u.place.number ∷ u.place.joined) in
              let x = summed (seated j) (seated j w) refl refl in let old = r.counts.seats j in omega arith;
          holders = let z : holding u ≡ 0 = ap one_if free_hand in let x = summed holding (holding v) refl refl in let old = r.counts.holders in omega arith;
          splitters = let two = sum_two splitting s.views id other v u (λ e. apart (sym e)) at was in let one = r.counts.splitters in let x = summed splitting (one_if (u.place.splits || v.place.splits)) refl refl in let y = one_or u.place.splits v.place.splits (omega (arith, two, one)) in omega arith;
          room = λ h. let x = summed clearance (clearance v) refl refl in let old = r.counts.room (omega arith) in omega arith;
        };
        roster = record {
          few = r.roster.few;
          count = let c = r.roster.count in omega arith;
          places = subst (λ (n : ℕ). Each place (set vs other no_view) (Placed n splitter')) (sym (size' ∙ size)) (moves other no_view {K = λ j x. j ≢ other → Placed (length s.views) splitter' j x} record { number = λ e. cc; splits = λ e. cc } (λ j x not_other _ known. known not_other)
              (moves id w (λ _. record { number = p.number; splits = cases u.place.splits v.place.splits id r.g.splitter u.place.next v.place.next (length s.views) (λ z. (q.splits z).1) p.splits })
              (λ j x not_id _ known not_other. record { number = known.number; splits = λ z. let t = known.splits z in (others_case u.place.splits j id r.g.splitter other (λ f. not_other (t.0 ∙ sym (q.splits f).0)) t.0, t.1) }) r.roster.places));
        };
        lives = stays other no_view record { gone = λ _. refl; announced = λ e. cc } (stays id w record { gone = λ z. absurd (spent_not v v_here z); announced = (r.lives.known id v at).announced } r.lives);
        draws = stays other no_view record { own = tt; lies = λ h. absurd (omega arith); flies = λ n. absurd (n refl); rests = λ _. e.rests no_flight; empty = λ z. cc }
            (stays id w record {
              own = all_append (Owned start.mark r.g.drawn v.draws.flight (r.g.lane id) r.g.book r.g.batch_of) v.draws.own u.draws.own d.own
                  (all_map u.draws.own (λ o y. record { above = y.above; below = y.below; rows = y.rows; small = y.small; landed = λ _. let a = y.above in ⊎_elim (λ h. inl h) (λ z. absurd (omega arith)) (y.landed (λ z. omega arith)) }) e.own);
              lies = λ h. let t = d.lies h in let c = count_append (r.g.lane id) v.draws.own u.draws.own in let a = t.0 in (omega arith, t.1);
              flies = λ n. let f = d.flies n in let c = count_append v.draws.flight v.draws.own u.draws.own in let a = f.entry in record { out = f.out; entry = omega arith; rows = f.rows; outside = f.outside };
              rests = d.rests;
              empty = d.empty;
            } r.draws);
        hands = stays other no_view (λ z. cc) (same id w v at refl r.hands);
        saw = stays other no_view record { history = record { more = hist r.g.book r.g.mark; joined = refl }; marks = tt; drawns = tt; synceds = tt; others = tt }
            (stays id w record { history = longer_is (λ x. Grows x (hist r.g.book r.g.mark)) v.seen.history u.seen.history k.history l.history; marks = k.marks; drawns = k.drawns; synceds = k.synceds; others = (k.history, (l.history, all_append (λ h. Grows h (hist r.g.book r.g.mark)) v.seen.others u.seen.others k.others l.others)) } r.saw);
        kept = stays other no_view tt (stays id w (all_append (λ b. Keeps b r.g.book) v.books u.books (r.kept.known id v at) (r.kept.known other u was)) r.kept);
        pins = let a = r.order.floor_low in let b = rests_v.raised in let c = rests_u.raised in pins_scan (pins_scan r.pins id r.g.floor v w at (omega arith) r.pins.kept record { state = rests_v.state; low = rests_v.low; passed = rests_v.passed; raised = omega arith }) other r.g.floor u no_view at_other (omega arith) r.pins.kept
            record { state = subst (PinOk (r.g.pin other) (r.g.pinned other)) idle_now rests_u.state; low = omega arith; passed = λ j h. absurd (omega arith); raised = omega arith };
      }
    where
      spent_not : (v : View) → v.place.spent ≡ false → v.place.spent ≡ true → ⊥
      spent_not v a b = cc

      cases : (f g : Bool) (id splitter n m count : ℕ) → (f ≡ true → n ≡ count) → (g ≡ true → (id ≡ splitter) × (m ≡ count)) → (f || g) ≡ true → (id ≡ cond f id splitter) × ((cond f n m) ≡ count)
      cases true g id splitter n m count a b e = (refl, a refl)
      cases false g id splitter n m count a b e = b e

      others_case : (f : Bool) (j id splitter other : ℕ) → (f ≡ true → ⊥) → j ≡ splitter → j ≡ cond f id splitter
      others_case true j id splitter other a e = absurd (a refl)
      others_case false j id splitter other a e = e

      longer_is : {A : Type 0} (K : List A → Type 0) (xs ys : List A) → K xs → K ys → K (longer xs ys)
      longer_is K xs ys a b = choose (ltb (length xs) (length ys))
        where
          choose : (f : Bool) → K (cond f ys xs)
          choose true = b
          choose false = a

  pub seat_join_event : (other id : ℕ) (s t : TableState P) → Rule s → Happens other id s t → Rule t
  seat_join_event other id s t r h = subst (λ x. Rule x) (sym h.becomes) (keeps_join s r id h.view other h.joined h.sits h.other_sits h.apart h.may)

  pub allows_join : (id : ℕ) (v : View) (other : ℕ) (u : View) → v.place.spent ≡ false → u.place.spent ≡ false → MayJoin u → Joins Rule id v other u (join_of v u) no_view
  allows_join id v other u v_here u_here may s r at apart at_other = let was : get_elem? s.views other ≡ some u = sym (set_else s.views id other (join_of v u) apart) ∙ at_other in
      keeps_join s r id v other u record { at = at; live = v_here } record { at = was; live = u_here } apart may
