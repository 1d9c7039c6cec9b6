-- Emptying a lane whose batch came into the book keeps the rule.
use Rattle.std.proofs.Common.{◌≡◌, ◌≢◌, ℕ, ◌+◌, ◌*◌, ◌<◌, true, false, List, ◌∷◌, set, sym, refl, ap, ◌∙◌, subst, ⊎_elim, inl, inr, arith}
use mathlib.Core.Logic.{dite}
use mathlib.Core.Option.{none, some}
use native.Mathlib.Decide.{ℕ_discrete}
use lib.ListN.{get_elem?}
use Rattle.atomic_table.specs.Table.{step, gives, stepped, Allows, rest as others}
use Rattle.atomic_table.proofs.Lists.{set_here, set_else}
use Rattle.fd_kinds.specs.Parts.{PartMeaning}
use Rattle.fd_kinds.specs.History.{History, IsSmall}
use Rattle.fd_kinds.specs.Stores.{Grows, Written}
use Rattle.fd_shelf.specs.Books.{Book, Shelved, all_parts}
use Rattle.fd_shelf.specs.Histories.{hist, batch_at, in_row_order}
use Rattle.fd_shelf.specs.Numbers.{IsIn}
use Rattle.fd_shelf.specs.Stragglers.{with_straggler}
use Rattle.fd_rule.specs.Tables.{TableState, Seated, Sits, after}
use Rattle.fd_rule.specs.View.{Hand, laden, View}
use Rattle.fd_rule.specs.Rule.{Each, seen, Stage, free, flying, looked, LaneOk, Entry, Draw, Drawing, OutOf, HandOk, Saw, Ruled}
use Rattle.fd_rule.specs.declared.slot.SlotValue.{SlotValue}
use Rattle.fd_rule.specs.declared.slot.SlotValue.TheVariants.{Empty}
use Rattle.fd_rule.proofs.Stay.{moves, same, alike}
use Rattle.fd_rule.proofs.Sets.{put, put_here, put_both, put_one, length_set, store_lane}
use Rattle.fd_rule.proofs.PinChanges.{pins_same}
use Rattle.fd_rule.proofs.BookChanges.{StragglerLaws, all_keep, straggler_more, straggler_new, straggler_less, straggler_keeps, straggler_sealed}
use Rattle.fd_rule.proofs.Keep.{all_map, entry_is, flag_true, draw_flag, roster_same, lives_same, counts_same}
use Rattle.fd_rule.specs.Kinds.LaneClearance.{Happens, with_cleared, told}
use Rattle.fd_rule.proofs.Lying.{lies, apart, flying_above}

module _ (P : Type 0) (means : P → PartMeaning) (start : Shelved) (seats : ℕ) where
  abbrev Rule : TableState P → Type 0
  Rule = Ruled means start seats

  keeps_cleared : (laws : StragglerLaws) (k : ℕ) (b : Written) (s : TableState P) (r : Rule s) (id : ℕ) (v : View) → Sits s id v → v.turn.holds ≡ true → v.turn.hand ≡ laden k b → Rule (after s (2 * k + 5) 0 (set s.homes (1 + k) (some Empty)) id (with_cleared k b v))
  keeps_cleared laws k b s r id v sits holds in_hand = let at = sits.at in let live = sits.live in let w : View = with_cleared k b v in let h = r.hands.known id v at holds in let mine = h.mine in let shelves = r.home.deep in let number = (r.roster.places.known id v at).number live in
      let out : OutOf seats r.g.lane r.g.stage r.g.batch_of k b = subst (λ (y : Hand). HandOk seats r.g.lane r.g.stage r.g.batch_of y) in_hand h.hand in let inside = out.inside in
      let some_word : 0 < r.g.lane k = subst (LaneOk means r.g.batch_of (r.g.lane k) (get_elem? s.homes (1 + k))) out.out (r.lanes.ok k inside) in
      let l = lies P means start seats s r k (λ e. looked_free (r.g.stage k) out.out e) some_word in let n_is : b.number ≡ r.g.lane k = out.number in let over = l.over in let under = l.under in let bounded = r.order.small in let base_low = r.booked.low in let above = l.above in
      let outside : IsIn b.number (all_parts r.g.book) → ⊥ = λ y. l.outside (subst (λ z. IsIn z (all_parts r.g.book)) n_is y) in
      let rows_small : IsSmall b.rows = subst (λ z. IsSmall z) (sym out.rows) l.small in
      let book' : Book = with_straggler b.number b.rows r.g.book in let lane' : ℕ → ℕ = put r.g.lane k 0 in let stage' : ℕ → Stage = put r.g.stage k free in
      let more = straggler_more r.g.book b.number b.rows in let less = straggler_less r.g.book b.number b.rows in let past = laws.history r.g.book r.g.mark b.number b.rows (omega arith) in let keep = straggler_keeps r.g.book b.number b.rows in
      let still_out : (j : ℕ) (u : View) (m : ℕ) → j ≢ k → get_elem? s.views j ≡ some u → start.mark < m → Entry m u.draws.own → (IsIn m (all_parts r.g.book) → ⊥) → IsIn m (all_parts book') → ⊥ =
      λ j u m other at_j high entry old y. ⊎_elim (λ a. old a) (λ e. apart P means start seats s r j k m u l.view other at_j l.at high entry (subst (λ z. Entry z l.view.draws.own) (sym (e ∙ n_is)) l.entry)) (less m y) in
      let now : (j : ℕ) (u : View) → get_elem? s.views j ≡ some u → Draw start.mark r.g.drawn book' r.g.batch_of (lane' j) (stage' j) u.draws = λ j u at_j. let q = r.draws.known j u at_j in
      put_both (λ j a st. (j ≡ k → Drawing start.mark r.g.drawn r.g.book r.g.batch_of r.g.lane r.g.stage k u.draws) → (j ≢ k → get_elem? s.views j ≡ some u) → (j ≢ k → Drawing start.mark r.g.drawn r.g.book r.g.batch_of r.g.lane r.g.stage j u.draws) → Draw start.mark r.g.drawn book' r.g.batch_of a st u.draws) r.g.lane r.g.stage k 0 free j
      (λ e here _ _. let q = here e in record {
        own = all_map u.draws.own (λ o y. record { above = y.above; below = y.below; rows = y.rows; small = y.small; landed = λ n. ⊎_elim (λ a. inl (more o.number a)) (λ lies_here. inl (subst (λ z. IsIn z (all_parts book')) (n_is ∙ lies_here) (straggler_new r.g.book b.number b.rows))) (y.landed n) }) q.own;
        lies = λ z. absurd (omega arith);
        flies = λ n. absurd (looked_flying (r.g.stage k) out.out (q.flies n).out);
        rests = λ _ z. cc;
        empty = λ _. refl;
      })
      (λ other _ here there. let q = there other in let at_here = here other in record {
        own = all_map u.draws.own (λ o y. record { above = y.above; below = y.below; rows = y.rows; small = y.small; landed = λ n. ⊎_elim (λ a. inl (more o.number a)) (λ e. inr e) (y.landed n) }) q.own;
        lies = λ z. let t = q.lies z in let e = entry_is (r.g.lane j) u.draws.own t.0 q.own in let high = e.2.above in let is = e.1 in (t.0, still_out j u (r.g.lane j) other at_here (omega arith) t.0 t.1);
        flies = λ n. let fl = q.flies n in record { out = fl.out; entry = fl.entry; rows = fl.rows; outside = still_out j u u.draws.flight other at_here (flying_above P means start seats s r j u at_here n) fl.entry fl.outside };
        rests = q.rests;
        empty = q.empty;
      }) (λ e. subst (λ z. Drawing start.mark r.g.drawn r.g.book r.g.batch_of r.g.lane r.g.stage z u.draws) e q) (λ _. at_j) (λ _. q) in
      let mine_now = now id v at in record {
        g = record r.g { book = book'; lane = lane'; stage = stage' };
        words = store_lane r.words k 0 inside;
        order = r.order;
        home = record { deep = length_set s.homes (1 + k) (some Empty) ∙ shelves; home = λ e. absurd (omega arith) };
        booked = record {
          base = r.booked.base;
          well = laws.book r.g.book r.booked.base b.number b.rows r.booked.well (omega arith) (omega arith) outside rows_small;
          low = base_low;
          marked = λ n a c. more n (r.booked.marked n a c);
          held = λ n y. ⊎_elim (λ a. r.booked.held n a) (λ e. omega arith) (less n y);
          rows = λ n a y. dite (ℕ_discrete n b.number)
              (λ e. subst (λ z. batch_at (all_parts book') z ≡ in_row_order (r.g.batch_of z)) (sym e) (laws.batch r.g.book r.booked.base b.number b.rows r.booked.well (omega arith) outside ∙ ap in_row_order (out.rows ∙ ap r.g.batch_of (sym n_is))))
              (λ other. laws.others r.g.book b.number b.rows n other ∙ ⊎_elim (λ z. r.booked.rows n a z) (λ e. absurd (other e)) (less n y));
          began = subst (λ (x : History). Grows (hist start.book start.mark) x) (sym past) r.booked.began;
        };
        sealed = λ n y. r.sealed n (straggler_sealed r.g.book b.number b.rows n y);
        lanes = let size = length_set s.views id w in record {
          ok = λ j a. put_both (λ j c st. LaneOk means r.g.batch_of c (get_elem? (set s.homes (1 + k) (some Empty)) (1 + j)) st) r.g.lane r.g.stage k 0 free j
              (λ e. (refl, subst (λ z. get_elem? (set s.homes (1 + k) (some Empty)) (1 + z) ≡ some (some Empty)) (sym e) (set_here s.homes (1 + k) (some Empty) (omega arith))))
              (λ other. subst (λ y. LaneOk means r.g.batch_of (r.g.lane j) y (r.g.stage j)) (sym (set_else s.homes (1 + k) (1 + j) (some Empty) (λ e. other (omega arith)))) (r.lanes.ok j a));
          unsplit = λ j a. put_one (λ j st. r.g.stage j ≡ free → st ≡ free) r.g.stage k free j (λ _ _. refl) (λ _ z. z) (r.lanes.unsplit j (omega (arith, a, size)));
          none_looked = λ e. absurd (omega arith);
        };
        counts = counts_same id v w at r.counts refl refl refl refl;
        roster = roster_same id v w at refl r.roster;
        lives = lives_same id v w at live refl refl r.lives;
        draws = moves id w
            (draw_flag v.draws v.draws.cleared w.draws.empty (λ e. ⊎_elim (λ a. mine_now.empty a) (λ (t : k ≡ v.place.number). subst (λ z. lane' z ≡ 0) (t ∙ number) (put_here r.g.lane k 0)) (flag_true v.draws.empty k v.place.number e)) mine_now)
            (λ j u _ at_j _. now j u at_j) r.draws;
        hands = moves id w
            (λ _. record { mine = mine; book_is = ap (with_straggler b.number b.rows) h.book_is; mark_is = h.mark_is; hand = λ j. put_one (λ j st. st ≢ looked) r.g.stage k free j (λ _ z. cc) (λ other z. other (out.only j z)) })
            (λ j y other _ q held. let only = (q held).mine in absurd (other (omega arith))) r.hands;
        saw = subst (λ (x : History). Each seen (set s.views id w) (Saw r.g.drawn r.g.mark r.g.synced x)) (sym past) (same id w v at refl r.saw);
        kept = same id w v at refl (alike (λ j bs q. all_keep r.g.book book' bs keep q) r.kept);
        pins = pins_same r.pins id v w at refl;
      }
    where
      looked_flying : (x : Stage) → x ≡ looked → x ≡ flying → ⊥
      looked_flying x a b = cc

      looked_free : (x : Stage) → x ≡ looked → x ≡ free → ⊥
      looked_free x a b = cc

  pub lane_clearance_event : (laws : StragglerLaws) (k id : ℕ) (s t : TableState P) → Rule s → Happens k id s t → Rule t
  lane_clearance_event laws k id s t r h = subst (λ x. Rule x) (sym h.becomes) (keeps_cleared laws k h.batch s r id h.view h.sits h.holds h.hand)

  pub allows_lane_clearance : (laws : StragglerLaws) (slots id i k : ℕ) (b : Written) (me : Seated P) → i ≡ 2 * k + 5 → me.0.place.spent ≡ false → me.0.turn.holds ≡ true → me.0.turn.hand ≡ laden k b → me.1 ≡ (1 + k, Empty) ∷ others me.1
      → Allows Rule slots id me i (λ _. 0) (λ _. told (step slots i 0 0 none) me 0)
  allows_lane_clearance laws slots id i k b me i_is live holds in_hand carried s r deep at small = let v : View = me.0 in let w : View = with_cleared k b v in (
    w,
    gives,
    tt,
    subst (λ (c : List (ℕ × SlotValue P)). Rule (stepped s i 0 id c w gives)) (sym carried) (subst (λ z. Rule (after s z 0 (set s.homes (1 + k) (some Empty)) id w)) (sym i_is) (keeps_cleared laws k b s r id v record { at = at; live = live } holds in_hand)),
    (refl, refl, λ j q e z. let same_lane : k ≡ j = omega arith in let same_batch : b ≡ q = laden_same k j b q (sym in_hand ∙ z) in λ c. (with_cleared (same_lane c) (same_batch c) v, others me.1)),
  )
    where
      laden_same : (k j : ℕ) (b q : Written) → laden k b ≡ laden j q → b ≡ q
      laden_same k j b q e = cc
