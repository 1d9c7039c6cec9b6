-- Drawing a number keeps the rule.
use Rattle.std.proofs.Common.{◌≡◌, ◌≢◌, ℕ, ◌+◌, ◌^◌, ◌<◌, ◌≤◌, ◌%◌, false, List, [], ◌∷◌, length, set, sym, refl, ap, ◌∙◌, subst, arith, length-append, eqb, eq-eqb, ne_eqb}
use Rattle.std.proofs.Math.Nat.{mod-eq_of_lt}
use mathlib.Core.Logic.{dite}
use mathlib.Core.Option.{none, some}
use native.Mathlib.Decide.{ℕ_discrete}
use lib.ListN.{get_elem?}
use Rattle.atomic_table.specs.Table.{step, takes, Allows}
use Rattle.atomic_table.proofs.Lists.{set_else}
use Rattle.fd_kinds.specs.declared.row.Row.{Row}
use Rattle.fd_kinds.specs.declared.limits.TheConstants.{MOST_NUMBERS}
use Rattle.fd_kinds.specs.Parts.{PartMeaning, loose_part}
use Rattle.fd_kinds.specs.History.{IsSmall}
use Rattle.fd_kinds.specs.Stores.{Written}
use Rattle.fd_shelf.specs.Books.{Book, Shelved}
use Rattle.fd_shelf.specs.Histories.{hist, in_row_order}
use Rattle.fd_rule.specs.declared.limits.TheConstants.{MOST_SEATS}
use Rattle.fd_rule.specs.Tables.{TableState, Seated, Sits, after, word}
use Rattle.fd_rule.specs.View.{Hand, bare, laden, Draws, View}
use Rattle.fd_rule.specs.Rule.{Stage, free, flying, full, looked, LaneOk, one_if, owns, clearance, Owned, Draw, Drawing, HandOk, Ruled}
use Rattle.fd_rule.specs.declared.slot.SlotValue.TheVariants.{Empty}
use Rattle.fd_rule.proofs.Stay.{below, moves, same, alike}
use Rattle.fd_rule.proofs.Sets.{put, put_here, put_else, put_one, length_set, store_drawn}
use Rattle.fd_rule.proofs.Sums.{sum_set, sum_one}
use Rattle.fd_rule.proofs.PinChanges.{pins_same}
use Rattle.fd_rule.proofs.Keep.{upto_later, all_map, all_append, count_append, entry_is, tops_of, roster_same, lives_same, seats_same, holders_same, splitters_same}
use Rattle.fd_rule.specs.Kinds.NumberDraw.{Happens, MayDraw, with_number, told}
use Rattle.fd_rule.proofs.Lying.{is_free, lies}

module _ (P : Type 0) (means : P → PartMeaning) (start : Shelved) (seats : ℕ) where
  abbrev Rule : TableState P → Type 0
  Rule = Ruled means start seats

  keeps_number : (rows : List Row) (s : TableState P) (r : Rule s) (id : ℕ) (v : View) → Sits s id v → MayDraw v.draws → IsSmall rows → Rule (after s 0 (word s 0 + 1) (set s.homes (1 + id) none) id (with_number (word s 0 + 1) rows v))
  keeps_number rows s r id v sits may few_bytes = let at = sits.at in let live = sits.live in let can = may.cleared in let empty = may.empty in let none_flies = may.landed in let x : ℕ = word s 0 in let now : x ≡ r.g.drawn = r.words.drawn_is in let w : View = with_number (x + 1) rows v in let o = r.order in let opening_low = o.opening_low in let ordered = o.marks_drawn in let bounded = o.small in
      let count = r.roster.count in let few = r.roster.few in let size = length_set s.views id w in let sums = sum_set clearance s.views id v w at in let one : one_if v.draws.cleared ≡ 1 = ap one_if can in let mine_too = sum_one clearance s.views id v at in let room = r.counts.room (omega arith) in
      let most : MOST_NUMBERS ≡ 2 ^ 62 = refl in let seated : MOST_SEATS ≡ 64 = refl in let fits : x + 1 < 2 ^ 63 = omega arith in
      let batch' : ℕ → List Row = put r.g.batch_of (x + 1) rows in let stage' : ℕ → Stage = put r.g.stage id flying in let k = r.saw.known id v at in let d = r.draws.known id v at in let f = is_free P means start seats s r id v at empty none_flies in let inside = f.0 in let number = (r.roster.places.known id v at).number live in
      let home_is : get_elem? s.homes (1 + id) ≡ some (some Empty) = (subst (LaneOk means r.g.batch_of (r.g.lane id) (get_elem? s.homes (1 + id))) f.1 (r.lanes.ok id inside)).1 in
      let old_batch : (n : ℕ) → n ≤ r.g.drawn → r.g.batch_of n ≡ batch' n = λ n h. sym (put_else r.g.batch_of (x + 1) rows n (λ e. omega arith)) in
      let lane_low : (j : ℕ) → r.g.stage j ≢ free → 0 < r.g.lane j → r.g.lane j ≤ r.g.drawn = λ j a b. (lies P means start seats s r j a b).under in
      let own_now : (flight flight' word : ℕ) (q : Written) → (q.number ≢ flight' → start.mark < q.number → q.number ≤ r.g.drawn → q.number ≢ flight) → Owned start.mark r.g.drawn flight word r.g.book r.g.batch_of q → Owned start.mark (x + 1) flight' word r.g.book batch' q = λ flight flight' word q flew y. let b = y.below in
      record { above = y.above; below = omega arith; rows = sym (old_batch q.number b) ∙ y.rows; small = y.small; landed = λ n. y.landed (flew n y.above b) } in
      let wn : Written = record { number = x + 1; rows = rows } in
      let flight_low : (j : ℕ) (y : Draws) → Drawing start.mark r.g.drawn r.g.book r.g.batch_of r.g.lane r.g.stage j y → y.flight ≢ 0 → y.flight ≤ r.g.drawn = λ j y q n. let e = entry_is y.flight y.own (q.flies n).entry q.own in let b = e.2.below in let is = e.1 in omega arith in
      let hand_now : (h : Hand) → HandOk seats r.g.lane r.g.stage r.g.batch_of h → HandOk seats r.g.lane stage' batch' h = hands_now r id x rows f.1 now lane_low in record {
        g = record r.g { drawn = x + 1; stage = stage'; batch_of = batch' };
        words = store_drawn r.words (x + 1);
        order = record { opening_low = opening_low; marks_drawn = omega arith; small = fits; synced_low = o.synced_low; floor_low = o.floor_low };
        home = record { deep = length_set s.homes (1 + id) none ∙ r.home.deep; home = λ e. let h = r.home.home e in (h.0, set_else s.homes (1 + id) 0 none (λ e. omega arith) ∙ h.1) };
        booked = record {
          base = r.booked.base;
          well = r.booked.well;
          low = r.booked.low;
          marked = r.booked.marked;
          held = λ n h. let b = r.booked.held n h in omega arith;
          rows = λ n a h. r.booked.rows n a h ∙ ap in_row_order (old_batch n (r.booked.held n h));
          began = r.booked.began;
        };
        sealed = r.sealed;
        lanes = record {
          ok = λ j h. put_one (λ j st. LaneOk means batch' (r.g.lane j) (get_elem? (set s.homes (1 + id) none) (1 + j)) st) r.g.stage id flying j
              (λ e. ap r.g.lane e ∙ d.empty empty)
              (λ other. subst (λ y. LaneOk means batch' (r.g.lane j) y (r.g.stage j)) (sym (set_else s.homes (1 + id) (1 + j) none (λ e. other (omega arith))))
              (kept_lane r j batch' (λ not_free some_word. old_batch (r.g.lane j) (lane_low j not_free some_word)) (r.lanes.ok j h)));
          unsplit = λ j h. put_else r.g.stage id flying j (let here = below s.views id v at in λ e. omega arith) ∙ r.lanes.unsplit j (omega arith);
          none_looked = λ e j. put_one (λ j st. st ≢ looked) r.g.stage id flying j (λ _ z. cc) (λ _. r.lanes.none_looked e j);
        };
        counts = record {
          numbers = λ n h. let more = sum_set (owns n) s.views id v w at in let split = count_append n v.draws.own (wn ∷ []) in let old = r.counts.numbers n h in dite (ℕ_discrete (x + 1) n)
              (λ e. let z : one_if (eqb (x + 1) n) ≡ 1 = ap one_if (eq-eqb (x + 1) n e) in omega arith) (λ ne. let z : one_if (eqb (x + 1) n) ≡ 0 = ap one_if (ne_eqb (x + 1) n ne) in omega arith);
          seats = seats_same id v w at r.counts refl;
          holders = holders_same id v w at r.counts refl;
          splitters = splitters_same id v w at r.counts refl;
          room = λ h. omega arith;
        };
        roster = roster_same id v w at refl r.roster;
        lives = lives_same id v w at live refl refl r.lives;
        draws = moves id w
            (put_one (λ j st. Draw start.mark (x + 1) r.g.book batch' (r.g.lane j) st w.draws) r.g.stage id flying id
            (λ _. record {
              own = all_append (Owned start.mark (x + 1) (x + 1) (r.g.lane id) r.g.book batch') v.draws.own (wn ∷ [])
                  (all_map v.draws.own (λ q y. own_now v.draws.flight (x + 1) (r.g.lane id) q (λ _ a b e. omega arith) y) d.own)
                  (record { above = omega arith; below = omega arith; rows = put_here r.g.batch_of (x + 1) rows; small = few_bytes; landed = λ n. absurd (n refl) }, tt);
              lies = λ h. let z = d.empty empty in absurd (omega arith);
              flies = λ _. record { out = refl; entry = let split = count_append (x + 1) v.draws.own (wn ∷ []) in let z : one_if (eqb (x + 1) (x + 1)) ≡ 1 = ap one_if (eq-eqb (x + 1) (x + 1) refl) in omega arith; rows = put_here r.g.batch_of (x + 1) rows; outside = λ h. let b = r.booked.held (x + 1) h in absurd (omega arith) };
              rests = λ e. absurd (omega arith);
              empty = d.empty;
            }) (λ ne. absurd (ne refl)))
            (λ j y other at_j q. put_one (λ j st. (j ≢ id) → Drawing start.mark r.g.drawn r.g.book r.g.batch_of r.g.lane r.g.stage j y.draws → Draw start.mark (x + 1) r.g.book batch' (r.g.lane j) st y.draws) r.g.stage id flying j (λ e ne. absurd (ne e))
            (λ _ _ q. record {
              own = all_map y.draws.own (λ p z. own_now y.draws.flight y.draws.flight (r.g.lane j) p (λ n _ _. n) z) q.own;
              lies = q.lies;
              flies = λ n. let fl = q.flies n in record { out = fl.out; entry = fl.entry; rows = sym (old_batch y.draws.flight (flight_low j y.draws q n)) ∙ fl.rows; outside = fl.outside };
              rests = q.rests;
              empty = q.empty;
            }) other q) r.draws;
        hands = same id w v at refl (alike (λ j t q h. let y = q h in record { mine = y.mine; book_is = y.book_is; mark_is = y.mark_is; hand = hand_now t.hand y.hand }) r.hands);
        saw = same id w v at refl (alike (λ j e q. record { history = q.history; marks = q.marks; drawns = upto_later r.g.drawn (x + 1) e.drawns (omega arith) q.drawns; synceds = q.synceds; others = q.others }) r.saw);
        kept = same id w v at refl r.kept;
        pins = pins_same r.pins id v w at refl;
      }
    where
      kept_lane : {s : TableState P} (r : Rule s) (j : ℕ) (batch' : ℕ → List Row) → (r.g.stage j ≢ free → 0 < r.g.lane j → r.g.batch_of (r.g.lane j) ≡ batch' (r.g.lane j)) → LaneOk means r.g.batch_of (r.g.lane j) (get_elem? s.homes (1 + j)) (r.g.stage j) → LaneOk means batch' (r.g.lane j) (get_elem? s.homes (1 + j)) (r.g.stage j)
      kept_lane {s} r j batch' e k = by_case (r.g.stage j) e k
        where
          by_case : (st : Stage) → (st ≢ free → 0 < r.g.lane j → r.g.batch_of (r.g.lane j) ≡ batch' (r.g.lane j)) → LaneOk means r.g.batch_of (r.g.lane j) (get_elem? s.homes (1 + j)) st → LaneOk means batch' (r.g.lane j) (get_elem? s.homes (1 + j)) st
          by_case free e k = k
          by_case flying e k = k
          by_case full e k = (k.0, (k.1.0, k.1.1, k.1.2 ∙ ap (loose_part (r.g.lane j)) (e (λ z. cc) k.0)))
          by_case looked e k = k

      hands_now : {s : TableState P} (r : Rule s) (id x : ℕ) (rows : List Row) → r.g.stage id ≡ free → x ≡ r.g.drawn → ((j : ℕ) → r.g.stage j ≢ free → 0 < r.g.lane j → r.g.lane j ≤ r.g.drawn) → (h : Hand) → HandOk seats r.g.lane r.g.stage r.g.batch_of h → HandOk seats r.g.lane (put r.g.stage id flying) (put r.g.batch_of (x + 1) rows) h
      hands_now r id x rows at_free now low bare ok = λ j. put_one (λ j st. st ≢ looked) r.g.stage id flying j (λ _ z. cc) (λ _. ok j)
      hands_now {s} r id x rows at_free now low (laden k b) ok = let out = ok.out in
          let not_free : r.g.stage k ≢ free = (λ e. two_stages (r.g.stage k) out e) in
          let word : 0 < r.g.lane k = subst (LaneOk means r.g.batch_of (r.g.lane k) (get_elem? s.homes (1 + k))) out (r.lanes.ok k ok.inside) in
          let l = low k not_free word in record {
            inside = ok.inside;
            out = put_else r.g.stage id flying k (λ e. not_free (ap r.g.stage e ∙ at_free)) ∙ out;
            number = ok.number;
            rows = ok.rows ∙ sym (put_else r.g.batch_of (x + 1) rows (r.g.lane k) (λ e. omega arith));
            only = λ j. put_one (λ j st. st ≡ looked → j ≡ k) r.g.stage id flying j (λ _ z. cc) (λ _. ok.only j);
          }
        where
          two_stages : (x : Stage) → x ≡ looked → x ≡ free → ⊥
          two_stages x a b = cc

  pub number_draw_event : (rows : List Row) (id : ℕ) (s t : TableState P) → Rule s → Happens rows id s t → Rule t
  number_draw_event rows id s t r h = subst (λ x. Rule x) (sym h.becomes) (keeps_number rows s r id h.view h.sits h.may h.small)

  pub allows_number_draw : (counted : (book : Book) (mark : ℕ) → length (hist book mark) ≡ mark) (slots id : ℕ) (rows : List Row) (me : Seated P) → me.0.place.spent ≡ false → MayDraw me.0.draws → IsSmall rows → Allows Rule slots id me 0 (λ n. (n + 1) % 2 ^ 64) (told rows (step slots 0 1 0 none) me)
  allows_number_draw counted slots id rows me live may few_bytes s r deep at small = let v : View = me.0 in let sits : Sits s id v = record { at = at; live = live } in let x : ℕ = word s 0 in let now : x ≡ r.g.drawn = r.words.drawn_is in let d = r.draws.known id v at in let number = (r.roster.places.known id v at).number live in
      let o = r.order in let opening_low = o.opening_low in let ordered = o.marks_drawn in let bounded = o.small in let k = r.saw.known id v at in let joined = ap length k.history.joined in let both = length-append v.seen.history k.history.more in let count_is = counted r.g.book r.g.mark in let unseen : length v.seen.history < x + 1 = omega arith in let can = may.cleared in let one : one_if v.draws.cleared ≡ 1 = ap one_if can in let mine_too = sum_one clearance s.views id v at in let room = r.counts.room (omega arith) in let count = r.roster.count in let few = r.roster.few in
      let most : MOST_NUMBERS ≡ 2 ^ 62 = refl in let seated : MOST_SEATS ≡ 64 = refl in let fits : x + 1 < 2 ^ 63 = omega arith in let next : (x + 1) % 2 ^ 64 ≡ x + 1 = mod-eq_of_lt (omega arith) in let f = is_free P means start seats s r id v at may.empty may.landed in
      let home_is : get_elem? s.homes (1 + id) ≡ some (some Empty) = (subst (LaneOk means r.g.batch_of (r.g.lane id) (get_elem? s.homes (1 + id))) f.1 (r.lanes.ok id f.0)).1 in (
        with_number (x + 1) rows v,
        takes (1 + id) Empty,
        home_is,
        subst (λ (n : ℕ). Rule (after s 0 n (set s.homes (1 + id) none) id (with_number (x + 1) rows v))) (sym next) (keeps_number rows s r id v sits may few_bytes),
        (ap (λ z. (with_number (x + 1) rows v, (1 + z, Empty) ∷ me.1)) (sym number), fits, tops_of r.g.drawn (x + 1) v.draws.own (omega arith) (all_map v.draws.own (λ q y. y.below) d.own), unseen),
      )
