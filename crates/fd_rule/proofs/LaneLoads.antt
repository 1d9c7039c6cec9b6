-- A load of a lane word keeps the rule.
use Rattle.std.proofs.Common.{◌≡◌, ◌≢◌, ℕ, ◌+◌, ◌*◌, ◌<◌, Bool, true, false, List, ◌∷◌, set, sym, refl, ap, ◌∙◌, subst, ⊎_elim, arith}
use mathlib.Core.Logic.{dite}
use mathlib.Core.Option.{Option, none, some}
use native.Mathlib.Decide.{ℕ_discrete}
use lib.ListN.{get_elem?}
use Rattle.atomic_table.specs.Table.{step, keeps, takes, Allows}
use Rattle.atomic_table.proofs.Lists.{set_else}
use Rattle.fd_kinds.specs.declared.row.Row.{Row}
use Rattle.fd_kinds.specs.Parts.{PartMeaning, loose_part}
use Rattle.fd_kinds.specs.Stores.{Written}
use Rattle.fd_shelf.specs.Books.{Book, Shelved, all_parts}
use Rattle.fd_shelf.specs.Numbers.{IsIn}
use Rattle.fd_rule.specs.Tables.{TableState, Seated, Sits, after, word}
use Rattle.fd_rule.specs.View.{Hand, bare, View}
use Rattle.fd_rule.specs.Rule.{Stage, free, flying, full, looked, LaneOk, Draw, Drawing, HandOk, Ruled}
use Rattle.fd_rule.specs.declared.slot.SlotValue.{SlotValue}
use Rattle.fd_rule.specs.declared.slot.SlotValue.TheVariants.{Empty, Home, Landed}
use Rattle.fd_rule.proofs.Stay.{moves, same, alike}
use Rattle.fd_rule.proofs.Sets.{put, put_here, put_else, put_one, length_set, load}
use Rattle.fd_rule.proofs.PinChanges.{pins_same}
use Rattle.fd_rule.proofs.Keep.{flag_true, both_true, by_stage, draw_flag, draw_stage, roster_same, lives_same, room_same, counts_same, looks}
use Rattle.fd_rule.specs.Kinds.LaneLoad.{Happens, HappensFree, HappensNone, HappensSome, MayLoad, Found, with_lane, with_none, with_some, told}
use Rattle.fd_rule.proofs.Lying.{lies}
use Rattle.fd_kinds.specs.Parts.{rows_of}
use Rattle.fd_rule.proofs.BookChanges.{its_rows}

module _ (P : Type 0) (means : P → PartMeaning) (start : Shelved) (seats : ℕ) where
  abbrev Rule : TableState P → Type 0
  Rule = Ruled means start seats

  keeps_lane : (k : ℕ) (s : TableState P) (r : Rule s) (id : ℕ) (v : View) → Sits s id v → k < seats → Rule (after s (2 * k + 5) (word s (2 * k + 5)) s.homes id (with_lane k (word s (2 * k + 5)) v))
  keeps_lane k s r id v sits inside = let at = sits.at in let x : ℕ = word s (2 * k + 5) in let w : View = with_lane k x v in let d = r.draws.known id v at in let number = (r.roster.places.known id v at).number sits.live in
      let is : x ≡ r.g.lane k = r.words.lane_is k inside in
      looks P means start seats s r id v w (set s.words (2 * k + 5) x) r.g.pin r.g.pinned at sits.live refl refl refl refl (room_same id v w at r.counts refl) (load r.words (2 * k + 5))
      (draw_flag v.draws v.draws.cleared w.draws.empty (λ e. ⊎_elim (λ a. d.empty a) (λ (t : (k ≡ v.place.number) × (x ≡ 0)). let here : k ≡ id = t.0 ∙ number in ap r.g.lane (sym here) ∙ (sym is ∙ t.1)) (both_true v.draws.empty k v.place.number x e)) d)
      (r.hands.known id v at) (r.saw.known id v at) (r.kept.known id v at) (pins_same r.pins id v w at refl)

  keeps_none : (k : ℕ) (s : TableState P) (r : Rule s) (id : ℕ) (v : View) → Sits s id v → k < seats → v.turn.holds ≡ true → word s (2 * k + 5) ≡ 0 → Rule (after s (2 * k + 5) (word s (2 * k + 5)) s.homes id (with_none k v))
  keeps_none k s r id v sits inside holds hit = let at = sits.at in let x : ℕ = word s (2 * k + 5) in let w : View = with_none k v in let h = r.hands.known id v at holds in let d = r.draws.known id v at in let number = (r.roster.places.known id v at).number sits.live in
      let word_is : x ≡ r.g.lane k = r.words.lane_is k inside in
      looks P means start seats s r id v w (set s.words (2 * k + 5) x) r.g.pin r.g.pinned at sits.live refl refl refl refl (room_same id v w at r.counts refl) (load r.words (2 * k + 5))
      (draw_flag v.draws v.draws.cleared w.draws.empty (λ e. ⊎_elim (λ a. d.empty a) (λ (t : k ≡ v.place.number). ap r.g.lane (sym (t ∙ number)) ∙ (sym word_is ∙ hit)) (flag_true v.draws.empty k v.place.number e)) d)
      (λ _. record { mine = h.mine; book_is = h.book_is; mark_is = h.mark_is; hand = h.hand }) (r.saw.known id v at) (r.kept.known id v at) (pins_same r.pins id v w at refl)

  -- what a lane has where its word is not 0 and the holder of the turn has no part out
  record Full (k : ℕ) (s : TableState P) (r : Rule s) : Type 0 where
    filled : r.g.stage k ≡ full
    some_word : 0 < r.g.lane k
    part : P
    home : get_elem? s.homes (1 + k) ≡ some (some (Landed part))
    rows : means part ≡ loose_part (r.g.lane k) (r.g.batch_of (r.g.lane k))

  is_full : (k : ℕ) (s : TableState P) (r : Rule s) (id : ℕ) (v : View) → Sits s id v → k < seats → v.turn.holds ≡ true → v.turn.hand ≡ bare → word s (2 * k + 5) ≢ 0 → Full k s r
  is_full k s r id v sits inside holds empty_hand miss = let x : ℕ = word s (2 * k + 5) in let h = r.hands.known id v sits.at holds in let word_is : x ≡ r.g.lane k = r.words.lane_is k inside in let ok = r.lanes.ok k inside in
      let none_out : (j : ℕ) → r.g.stage j ≢ looked = subst (λ (y : Hand). HandOk seats r.g.lane r.g.stage r.g.batch_of y) empty_hand h.hand in
      let filled : r.g.stage k ≡ full = by_stage (r.g.stage k ≡ full) (r.g.stage k)
      (λ e. let z = (subst (LaneOk means r.g.batch_of (r.g.lane k) (get_elem? s.homes (1 + k))) e ok).0 in absurd (omega arith))
      (λ e. let z = subst (LaneOk means r.g.batch_of (r.g.lane k) (get_elem? s.homes (1 + k))) e ok in absurd (omega arith)) (λ e. e) (λ e. absurd (none_out k e)) in
      let f = subst (LaneOk means r.g.batch_of (r.g.lane k) (get_elem? s.homes (1 + k))) filled ok in record { filled = filled; some_word = f.0; part = f.1.0; home = f.1.1; rows = f.1.2 }

  keeps_some : (k : ℕ) (s : TableState P) (r : Rule s) (id : ℕ) (v : View) → Sits s id v → k < seats → v.turn.holds ≡ true → v.turn.hand ≡ bare → Full k s r → Rule (after s (2 * k + 5) (word s (2 * k + 5)) (set s.homes (1 + k) none) id (with_some k (record { number = r.g.lane k; rows = r.g.batch_of (r.g.lane k) }) v))
  keeps_some k s r id v sits inside holds empty_hand f = let at = sits.at in let live = sits.live in let filled = f.filled in let h = r.hands.known id v at holds in let mine = h.mine in let shelves = r.home.deep in
      let none_out : (j : ℕ) → r.g.stage j ≢ looked = subst (λ (y : Hand). HandOk seats r.g.lane r.g.stage r.g.batch_of y) empty_hand h.hand in
      let stage' : ℕ → Stage = put r.g.stage k looked in let w : View = with_some k (record { number = r.g.lane k; rows = r.g.batch_of (r.g.lane k) }) v in record {
        g = record r.g { stage = stage' };
        words = load r.words (2 * k + 5);
        order = r.order;
        home = record { deep = length_set s.homes (1 + k) none ∙ shelves; home = λ e. absurd (omega arith) };
        booked = r.booked;
        sealed = r.sealed;
        lanes = let size = length_set s.views id w in record {
          ok = λ j a. put_one (λ j st. LaneOk means r.g.batch_of (r.g.lane j) (get_elem? (set s.homes (1 + k) none) (1 + j)) st) r.g.stage k looked j
              (λ e. subst (λ z. 0 < r.g.lane z) (sym e) f.some_word)
              (λ other. subst (λ y. LaneOk means r.g.batch_of (r.g.lane j) y (r.g.stage j)) (sym (set_else s.homes (1 + k) (1 + j) none (λ e. other (omega arith)))) (r.lanes.ok j a));
          unsplit = λ j a. put_else r.g.stage k looked j (λ e. full_free (r.g.stage k) filled (sym (ap r.g.stage e) ∙ r.lanes.unsplit j (omega (arith, a, size)))) ∙ r.lanes.unsplit j (omega (arith, a, size));
          none_looked = λ e. absurd (omega arith);
        };
        counts = counts_same id v w at r.counts refl refl refl refl;
        roster = roster_same id v w at refl r.roster;
        lives = lives_same id v w at live refl refl r.lives;
        draws = same id w v at refl (alike (λ j y q. put_one (λ j st. Drawing start.mark r.g.drawn r.g.book r.g.batch_of r.g.lane r.g.stage j y → Draw start.mark r.g.drawn r.g.book r.g.batch_of (r.g.lane j) st y) r.g.stage k looked j
            (λ e q. draw_stage looked y (λ z. full_flying (r.g.stage k) filled (sym (ap r.g.stage e) ∙ z)) (λ z. cc) q) (λ _ q. q) q) r.draws);
        hands = moves id w
            (λ _. record {
              mine = mine;
              book_is = h.book_is;
              mark_is = h.mark_is;
              hand = record { inside = inside; out = put_here r.g.stage k looked; number = refl; rows = refl; only = λ j. put_one (λ j st. st ≡ looked → j ≡ k) r.g.stage k looked j (λ e _. e) (λ _ z. absurd (none_out j z)) };
            })
            (λ j y other _ q held. let only = (q held).mine in absurd (other (omega arith))) r.hands;
        saw = same id w v at refl r.saw;
        kept = same id w v at refl r.kept;
        pins = pins_same r.pins id v w at refl;
      }
    where
      full_free : (x : Stage) → x ≡ full → x ≡ free → ⊥
      full_free x a b = cc

      full_flying : (x : Stage) → x ≡ full → x ≡ flying → ⊥
      full_flying x a b = cc

  tells_some : (k : ℕ) (s : TableState P) (r : Rule s) (id : ℕ) (v : View) → Sits s id v → k < seats → v.turn.holds ≡ true → (f : Full k s r) → Found means (word s (2 * k + 5)) (record { number = r.g.lane k; rows = r.g.batch_of (r.g.lane k) }) f.part v
  tells_some k s r id v sits inside holds f = let x : ℕ = word s (2 * k + 5) in let h = r.hands.known id v sits.at holds in let word_is : x ≡ r.g.lane k = r.words.lane_is k inside in
      let l = lies P means start seats s r k (λ e. full_free (r.g.stage k) f.filled e) f.some_word in let over = l.over in let under = l.under in let bounded = r.order.small in let mark_is = h.mark_is in record {
        number = sym word_is;
        part = f.rows ∙ ap (λ z. loose_part z (r.g.batch_of (r.g.lane k))) (sym word_is);
        small = l.small;
        above = omega arith;
        bounded = omega arith;
        outside = λ y. l.outside (subst (λ (z : ℕ × Book). IsIn z.0 (all_parts z.1)) (λ c. (word_is c, h.book_is c)) y);
      }
    where
      full_free : (x : Stage) → x ≡ full → x ≡ free → ⊥
      full_free x a b = cc

  abbrev part_in : P → Option (Option (SlotValue P)) → P
  part_in other (some (some (Landed part))) = part
  part_in other (some (some Empty)) = other
  part_in other (some (some (Home shelf))) = other
  part_in other (some none) = other
  part_in other none = other

  abbrev rows_in_part : PartMeaning → List Row
  rows_in_part part = rows_of part.rows

  -- the batch of the part that lies there is the one that was drawn for the number
  same_batch : (k : ℕ) (s : TableState P) (r : Rule s) (f : Full k s r) (part : P) (b : Written) → get_elem? s.homes (1 + k) ≡ some (some (Landed part)) → b.number ≡ r.g.lane k → means part ≡ loose_part b.number b.rows
      → record { number = r.g.lane k; rows = r.g.batch_of (r.g.lane k) } ≡ b
  same_batch k s r f part b home number means_it = let same_part : f.part ≡ part = ap (part_in f.part) (sym f.home ∙ home) in
      let rows : r.g.batch_of (r.g.lane k) ≡ b.rows = sym (its_rows (r.g.lane k) (r.g.batch_of (r.g.lane k))) ∙ (ap rows_in_part (sym f.rows ∙ (ap means same_part ∙ means_it)) ∙ its_rows b.number b.rows) in
      λ i. record { number = sym number i; rows = rows i }

  event_some : (k id : ℕ) (s t : TableState P) → Rule s → HappensSome means seats k id s t → Rule t
  event_some k id s t r h = let v : View = h.view in let hand = h.may.hand h.holds in let f = is_full k s r id v h.sits h.may.inside h.holds hand h.filled in let is : word s (2 * k + 5) ≡ r.g.lane k = r.words.lane_is k h.may.inside in
      subst (λ x. Rule x) (sym h.becomes) (subst (λ (b : Written). Rule (after s (2 * k + 5) (word s (2 * k + 5)) (set s.homes (1 + k) none) id (with_some k b v))) (same_batch k s r f h.part h.batch h.home (h.number ∙ is) h.means_it) (keeps_some k s r id v h.sits h.may.inside h.holds hand f))

  pub lane_load_event : (k id : ℕ) (s t : TableState P) → Rule s → Happens means seats k id s t → Rule t
  lane_load_event k id s t r happens = ⊎_elim
      (λ (h : HappensFree seats k id s t). subst (λ x. Rule x) (sym h.becomes) (keeps_lane k s r id h.view h.sits h.may.inside))
      (λ later. ⊎_elim
      (λ (h : HappensNone seats k id s t). subst (λ x. Rule x) (sym h.becomes) (keeps_none k s r id h.view h.sits h.may.inside h.holds h.vacant))
      (λ (h : HappensSome means seats k id s t). event_some k id s t r h) later) happens

  allows_free : (slots id i k : ℕ) (me : Seated P) → i ≡ 2 * k + 5 → me.0.place.spent ≡ false → k < seats → me.0.turn.holds ≡ false → Allows Rule slots id me i (λ n. n) (told means (step slots i 0 0 none) me)
  allows_free slots id i k me i_is live inside holds s r deep at small = let v : View = me.0 in (
    with_lane k (word s i) v,
    keeps,
    tt,
    subst (λ (z : ℕ). Rule (after s z (word s z) s.homes id (with_lane k (word s z) v))) (sym i_is) (keeps_lane k s r id v record { at = at; live = live } inside),
    (
      refl,
      refl,
      λ j e. record {
        without = λ _. let same_lane : k ≡ j = omega arith in ap (λ z. (with_lane z (word s i) v, me.1)) same_lane;
        empty = λ held. absurd (two_ways v.turn.holds holds held);
        filled = λ held. absurd (two_ways v.turn.holds holds held);
      },
    ),
  )
    where
      two_ways : (b : Bool) → b ≡ false → b ≡ true → ⊥
      two_ways b x y = cc

  allows_held : (slots id i k : ℕ) (me : Seated P) → i ≡ 2 * k + 5 → me.0.place.spent ≡ false → k < seats → me.0.turn.holds ≡ true → me.0.turn.hand ≡ bare → Allows Rule slots id me i (λ n. n) (told means (step slots i 0 0 none) me)
  allows_held slots id i k me i_is live inside holds empty_hand s r deep at small = let v : View = me.0 in let sits : Sits s id v = record { at = at; live = live } in let same_lane : (j : ℕ) → i ≡ 2 * j + 5 → k ≡ j = λ j e. omega arith in let word_i : word s i ≡ word s (2 * k + 5) = ap (λ z. word s z) i_is in dite (ℕ_discrete (word s i) 0)
      (λ hit. (
        with_none k v,
        keeps,
        tt,
        subst (λ (z : ℕ). Rule (after s z (word s z) s.homes id (with_none k v))) (sym i_is) (keeps_none k s r id v sits inside holds (sym word_i ∙ hit)),
        (
          refl,
          refl,
          λ j e. record {
            without = λ free_turn. absurd (two_ways v.turn.holds free_turn holds);
            empty = λ _ _. ap (λ z. (with_none z v, me.1)) (same_lane j e);
            filled = λ _ miss. absurd (miss hit);
          },
        ),
      ))
      (λ miss. let f = is_full k s r id v sits inside holds empty_hand (λ e. miss (word_i ∙ e)) in let b : Written = record { number = r.g.lane k; rows = r.g.batch_of (r.g.lane k) } in (
        with_some k b v,
        takes (1 + k) (Landed f.part),
        f.home,
        subst (λ (z : ℕ). Rule (after s z (word s z) (set s.homes (1 + k) none) id (with_some k b v))) (sym i_is) (keeps_some k s r id v sits inside holds empty_hand f),
        (
          refl,
          refl,
          λ j e. record {
            without = λ free_turn. absurd (two_ways v.turn.holds free_turn holds);
            empty = λ _ hit. absurd (miss hit);
            filled = λ _ _. (f.part, b, subst (λ z. Found means z b f.part v) (sym word_i) (tells_some k s r id v sits inside holds f), ap (λ z. (with_some z b v, (1 + z, Landed f.part) ∷ me.1)) (same_lane j e));
          },
        ),
      ))
    where
      two_ways : (b : Bool) → b ≡ false → b ≡ true → ⊥
      two_ways b x y = cc

  pub allows_lane_load : (slots id i k : ℕ) (me : Seated P) → i ≡ 2 * k + 5 → me.0.place.spent ≡ false → MayLoad seats k me.0.turn → Allows Rule slots id me i (λ n. n) (told means (step slots i 0 0 none) me)
  allows_lane_load slots id i k me i_is live may = by_turn me.0.turn.holds (λ holds. allows_free slots id i k me i_is live may.inside holds) (λ holds. allows_held slots id i k me i_is live may.inside holds (may.hand holds))
    where
      by_turn : {F : Type 0} (b : Bool) → (b ≡ false → F) → (b ≡ true → F) → F
      by_turn false f g = f refl
      by_turn true f g = g refl
