-- Landing a batch keeps the rule.
use Rattle.std.proofs.Common.{◌≡◌, ◌≢◌, ℕ, ◌+◌, ◌*◌, ◌<◌, false, List, ◌∷◌, set, sym, refl, ap, ◌∙◌, subst, ⊎_elim, inl, inr, arith}
use mathlib.Core.Logic.{dite}
use mathlib.Core.Option.{none, some}
use native.Mathlib.Decide.{ℕ_discrete}
use lib.ListN.{get_elem?}
use Rattle.atomic_table.specs.Table.{step, gives, stepped, Allows, rest as others}
use Rattle.atomic_table.proofs.Lists.{set_here, set_else}
use Rattle.fd_kinds.specs.Parts.{PartMeaning, loose_part}
use Rattle.fd_shelf.specs.Books.{Shelved}
use Rattle.fd_rule.specs.Tables.{TableState, Seated, Sits, after}
use Rattle.fd_rule.specs.View.{Hand, bare, laden, View}
use Rattle.fd_rule.specs.Rule.{Stage, flying, full, looked, LaneOk, Draw, Drawing, HandOk, Ruled}
use Rattle.fd_rule.specs.declared.slot.SlotValue.{SlotValue}
use Rattle.fd_rule.specs.declared.slot.SlotValue.TheVariants.{Landed}
use Rattle.fd_rule.proofs.Stay.{below, moves, same, alike}
use Rattle.fd_rule.proofs.Sets.{put, put_else, put_both, put_one, length_set, store_lane}
use Rattle.fd_rule.proofs.PinChanges.{pins_same}
use Rattle.fd_rule.proofs.Keep.{all_map, roster_same, lives_same, counts_same}
use Rattle.fd_rule.specs.Kinds.BatchLanding.{Happens, MayLand, with_landed, told}

module _ (P : Type 0) (means : P → PartMeaning) (start : Shelved) (seats : ℕ) where
  abbrev Rule : TableState P → Type 0
  Rule = Ruled means start seats

  keeps_landed : (p : P) (s : TableState P) (r : Rule s) (id : ℕ) (v : View) → Sits s id v → MayLand (means p) v.draws → Rule (after s (2 * id + 5) v.draws.flight (set s.homes (1 + id) (some (Landed p))) id (with_landed v))
  keeps_landed p s r id v sits may = let at = sits.at in let live = sits.live in let x : ℕ = v.draws.flight in let some_number = may.flight in let p_is = may.part in let w : View = with_landed v in let d = r.draws.known id v at in let f = d.flies some_number in let shelves = r.home.deep in
      let lane' : ℕ → ℕ = put r.g.lane id x in let stage' : ℕ → Stage = put r.g.stage id full in let here = below s.views id v at in let count = r.roster.count in let at_id : id < seats = omega arith in
      let word_was : r.g.lane id ≡ 0 = subst (LaneOk means r.g.batch_of (r.g.lane id) (get_elem? s.homes (1 + id))) f.out (r.lanes.ok id at_id) in
      let rows_are : means p ≡ loose_part x (r.g.batch_of x) = p_is ∙ ap (loose_part x) (sym f.rows) in
      let out_of : (z : Stage) → z ≡ flying → z ≡ looked → ⊥ = λ z a b. two_stages z a b in
      let not_id : (k : ℕ) → r.g.stage k ≡ looked → k ≢ id = λ k e z. out_of (r.g.stage k) (ap r.g.stage z ∙ f.out) e in
      let homes' = set s.homes (1 + id) (some (Landed p)) in record {
        g = record r.g { lane = lane'; stage = stage' };
        words = store_lane r.words id x at_id;
        order = r.order;
        home = record { deep = length_set s.homes (1 + id) (some (Landed p)) ∙ shelves; home = λ e. let h = r.home.home e in (h.0, set_else s.homes (1 + id) 0 (some (Landed p)) (λ e. omega arith) ∙ h.1) };
        booked = r.booked;
        sealed = r.sealed;
        lanes = let size = length_set s.views id w in record {
          ok = λ j h. put_both (λ j a st. LaneOk means r.g.batch_of a (get_elem? homes' (1 + j)) st) r.g.lane r.g.stage id x full j
              (λ e. (omega arith, (p, subst (λ z. get_elem? homes' (1 + z) ≡ some (some (Landed p))) (sym e) (set_here s.homes (1 + id) (some (Landed p)) (omega arith)), rows_are)))
              (λ other. subst (λ y. LaneOk means r.g.batch_of (r.g.lane j) y (r.g.stage j)) (sym (set_else s.homes (1 + id) (1 + j) (some (Landed p)) (λ e. other (omega arith)))) (r.lanes.ok j h));
          unsplit = λ j h. put_else r.g.stage id full j (let y = below s.views id v at in λ e. omega arith) ∙ r.lanes.unsplit j (omega arith);
          none_looked = λ e j. put_one (λ j st. st ≢ looked) r.g.stage id full j (λ _ z. cc) (λ _. r.lanes.none_looked e j);
        };
        counts = counts_same id v w at r.counts refl refl refl refl;
        roster = roster_same id v w at refl r.roster;
        lives = lives_same id v w at live refl refl r.lives;
        draws = moves id w
            (put_both (λ j a st. Draw start.mark r.g.drawn r.g.book r.g.batch_of a st w.draws) r.g.lane r.g.stage id x full id
            (λ _. record {
              own = all_map v.draws.own (λ q y. record {
                above = y.above;
                below = y.below;
                rows = y.rows;
                small = y.small;
                landed = λ _. dite (ℕ_discrete q.number x) (λ e. inr (sym e)) (λ ne. ⊎_elim (λ h. inl h) (λ e. let a = y.above in absurd (omega arith)) (y.landed (λ e. ne e)));
              }) d.own;
              lies = λ _. (f.entry, f.outside);
              flies = λ n. absurd (n refl);
              rests = λ _ z. cc;
              empty = λ e. cc;
            }) (λ ne. absurd (ne refl)))
            (λ j y other at_j q. put_both (λ j a st. (j ≢ id) → Drawing start.mark r.g.drawn r.g.book r.g.batch_of r.g.lane r.g.stage j y.draws → Draw start.mark r.g.drawn r.g.book r.g.batch_of a st y.draws) r.g.lane r.g.stage id x full j (λ e ne. absurd (ne e)) (λ _ _ q. q) other q) r.draws;
        hands = same id w v at refl (alike (λ j t q h. let y = q h in record { mine = y.mine; book_is = y.book_is; mark_is = y.mark_is; hand = hands_now r id x f.out t.hand y.hand }) r.hands);
        saw = same id w v at refl r.saw;
        kept = same id w v at refl r.kept;
        pins = pins_same r.pins id v w at refl;
      }
    where
      two_stages : (x : Stage) → x ≡ flying → x ≡ looked → ⊥
      two_stages x a b = cc

      hands_now : {s : TableState P} (r : Rule s) (id x : ℕ) → r.g.stage id ≡ flying → (h : Hand) → HandOk seats r.g.lane r.g.stage r.g.batch_of h → HandOk seats (put r.g.lane id x) (put r.g.stage id full) r.g.batch_of h
      hands_now r id x flew bare ok = λ j. put_one (λ j st. st ≢ looked) r.g.stage id full j (λ _ z. cc) (λ _. ok j)
      hands_now r id x flew (laden k b) ok = let not_id : k ≢ id = (λ e. two_stages (r.g.stage k) (ap r.g.stage e ∙ flew) ok.out) in let word = put_else r.g.lane id x k not_id in record {
        inside = ok.inside;
        out = put_else r.g.stage id full k not_id ∙ ok.out;
        number = ok.number ∙ sym word;
        rows = ok.rows ∙ ap r.g.batch_of (sym word);
        only = λ j. put_one (λ j st. st ≡ looked → j ≡ k) r.g.stage id full j (λ _ z. cc) (λ _. ok.only j);
      }

  pub batch_landing_event : (p : P) (id : ℕ) (s t : TableState P) → Rule s → Happens means p id s t → Rule t
  batch_landing_event p id s t r h = subst (λ x. Rule x) (sym h.becomes) (keeps_landed p s r id h.view h.sits h.may)

  pub allows_batch_landing : (slots id n x : ℕ) (p : P) (me : Seated P) → n ≡ me.0.place.number → me.0.place.spent ≡ false → x ≡ me.0.draws.flight → MayLand (means p) me.0.draws → me.1 ≡ (1 + n, Landed p) ∷ others me.1
      → Allows Rule slots id me (2 * n + 5) (λ _. x) (λ _. told (step slots (2 * n + 5) x 0 none) me x)
  allows_batch_landing slots id n x p me is live flight may carried s r deep at small = let v : View = me.0 in let w : View = with_landed v in let here : n ≡ id = is ∙ (r.roster.places.known id v at).number live in (
    w,
    gives,
    tt,
    subst (λ (c : List (ℕ × SlotValue P)). Rule (stepped s (2 * n + 5) x id c w gives)) (sym carried)
        (subst (λ (z : ℕ × ℕ). Rule (after s (2 * z.0 + 5) z.1 (set s.homes (1 + z.0) (some (Landed p))) id w)) (λ i. (sym here i, sym flight i)) (keeps_landed p s r id v record { at = at; live = live } may)),
    refl,
  )
