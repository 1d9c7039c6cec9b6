-- Taking the turn keeps the rule.
use Rattle.std.proofs.Common.{◌≡◌, ℕ, ◌+◌, false, length, set, sym, refl, ap, ◌∙◌, subst, ⊎_elim, arith, eqb, eq-eqb, ne_eqb}
use prog.Atomic.{either}
use mathlib.Core.Logic.{dite}
use mathlib.Core.Option.{Option, none, some}
use native.Mathlib.Decide.{ℕ_discrete}
use lib.ListN.{get_elem?}
use Rattle.atomic_table.specs.Table.{step, keeps, takes, Allows}
use Rattle.atomic_table.proofs.Lists.{set_else}
use Rattle.fd_kinds.specs.Parts.{PartMeaning}
use Rattle.fd_shelf.specs.Books.{Book, Shelved}
use Rattle.fd_shelf.specs.Histories.{hist, in_row_order}
use Rattle.fd_rule.specs.Lists.{AllAsDrawn}
use Rattle.fd_rule.specs.Tables.{TableState, Seated, Sits, after, word}
use Rattle.fd_rule.specs.View.{View}
use Rattle.fd_rule.specs.Rule.{LaneOk, holding, Ruled}
use Rattle.fd_rule.specs.declared.slot.SlotValue.{SlotValue}
use Rattle.fd_rule.specs.declared.slot.SlotValue.TheVariants.{Empty, Home, Landed}
use Rattle.fd_rule.proofs.Stay.{moves, stays, same}
use Rattle.fd_rule.proofs.Sets.{length_set, load, store_taken}
use Rattle.fd_rule.proofs.Sums.{sum_set, sum_one}
use Rattle.fd_rule.proofs.PinChanges.{pins_same, below_pin}
use Rattle.fd_rule.proofs.BookChanges.{keeps_same, grows_same}
use Rattle.fd_rule.proofs.Keep.{all_map, roster_same, lives_same, numbers_same, seats_same, splitters_same, room_same, looks}
use Rattle.fd_rule.specs.Kinds.TurnTry.{Happens, HappensFree, HappensHeld, with_book, with_refusal, told}

module _ (P : Type 0) (means : P → PartMeaning) (start : Shelved) (seats : ℕ) where
  abbrev Rule : TableState P → Type 0
  Rule = Ruled means start seats

  keeps_book : (s : TableState P) (r : Rule s) (id : ℕ) (v : View) (b : Shelved) → Sits s id v → word s 2 ≡ 0 → get_elem? s.homes 0 ≡ some (some (Home b)) → Rule (after s 2 (id + 1) (set s.homes 0 none) id (with_book b v))
  keeps_book s r id v b sits hit is_home = let at = sits.at in let live = sits.live in let t : ℕ = word s 2 in let is : t ≡ r.g.taken = r.words.taken_is in let k = r.saw.known id v at in let size = length_set s.views id v in
      let h = r.home.home (sym is ∙ hit) in let b0 : Shelved = record { book = r.g.book; mark = r.g.mark; spare = h.0 } in
      let same_b : b0 ≡ b = ap (shelf_in b0) (sym h.1 ∙ is_home) in
      subst (λ (y : Shelved). Rule (after s 2 (id + 1) (set s.homes 0 none) id (with_book y v))) same_b
      (let w : View = with_book b0 v in let holders = r.counts.holders in let sums = sum_set holding s.views id v w at in let mine_too = sum_one holding s.views id v at in record {
        g = record r.g { taken = id + 1 };
        words = store_taken r.words (id + 1);
        order = r.order;
        home = record { deep = length_set s.homes 0 none ∙ r.home.deep; home = λ e. absurd (omega arith) };
        booked = r.booked;
        sealed = r.sealed;
        lanes = let n = length_set s.views id w in record {
          ok = λ j i. subst (λ x. LaneOk means r.g.batch_of (r.g.lane j) x (r.g.stage j)) (sym (set_else s.homes 0 (1 + j) none (λ e. omega arith))) (r.lanes.ok j i);
          unsplit = λ j i. r.lanes.unsplit j (omega (arith, i, n));
          none_looked = λ e. absurd (omega arith);
        };
        counts = record { numbers = numbers_same id v w at r.counts refl; seats = seats_same id v w at r.counts refl; holders = omega arith; splitters = splitters_same id v w at r.counts refl; room = room_same id v w at r.counts refl };
        roster = roster_same id v w at refl r.roster;
        lives = lives_same id v w at live refl refl r.lives;
        draws = same id w v at refl r.draws;
        hands = moves id w (λ _. record { mine = refl; book_is = refl; mark_is = refl; hand = r.lanes.none_looked (sym is ∙ hit) }) (λ j x other p known holds. let n : r.g.taken ≡ j + 1 = (known holds).mine in absurd (omega arith)) r.hands;
        saw = stays id w record { history = grows_same (hist r.g.book r.g.mark); marks = k.marks; drawns = k.drawns; synceds = k.synceds; others = k.others } r.saw;
        kept = stays id w (keeps_same r.g.book, r.kept.known id v at) r.kept;
        pins = pins_same r.pins id v w at refl;
      })
    where
      shelf_in : Shelved → Option (Option (SlotValue P)) → Shelved
      shelf_in other (some (some (Home shelf))) = shelf
      shelf_in other (some (some Empty)) = other
      shelf_in other (some (some (Landed part))) = other
      shelf_in other (some none) = other
      shelf_in other none = other

  keeps_refusal : (s : TableState P) (r : Rule s) (id : ℕ) (v : View) → Sits s id v → Rule (after s 2 (word s 2) s.homes id (with_refusal (word s 2) v))
  keeps_refusal s r id v sits = let at = sits.at in let t : ℕ = word s 2 in let w : View = with_refusal t v in
      looks P means start seats s r id v w (set s.words 2 t) r.g.pin r.g.pinned at sits.live refl refl refl refl (room_same id v w at r.counts refl) (load r.words 2) (r.draws.known id v at) (r.hands.known id v at) (r.saw.known id v at) (r.kept.known id v at) (pins_same r.pins id v w at refl)

  -- what the seat drew has its rows in the book
  all_as_drawn : (s : TableState P) (r : Rule s) (id : ℕ) (v : View) → get_elem? s.views id ≡ some v → AllAsDrawn r.g.book v.draws.own
  all_as_drawn s r id v at = all_map v.draws.own (λ o y x. r.booked.rows o.number y.above x ∙ ap in_row_order y.rows) (r.draws.known id v at).own

  pub turn_try_event : (id : ℕ) (s t : TableState P) → Rule s → Happens id s t → Rule t
  turn_try_event id s t r happens = ⊎_elim
      (λ (h : HappensFree id s t). subst (λ x. Rule x) (sym h.becomes) (keeps_book s r id h.view h.shelf h.sits h.free h.home))
      (λ (h : HappensHeld id s t). subst (λ x. Rule x) (sym h.becomes) (keeps_refusal s r id h.view h.sits)) happens

  pub allows_turn_try : (counted : (book : Book) (mark : ℕ) → length (hist book mark) ≡ mark) (slots id mine : ℕ) (me : Seated P) → mine ≡ me.0.place.number + 1 → me.0.place.spent ≡ false → Allows Rule slots id me 2 (λ n. either (eqb n 0) mine n) (told (step slots 2 0 mine none) me)
  allows_turn_try counted slots id mine me is_number live s r deep at small = let v : View = me.0 in let sits : Sits s id v = record { at = at; live = live } in let number = (r.roster.places.known id v at).number live in let is_own : mine ≡ id + 1 = omega arith in let t : ℕ = word s 2 in let is : t ≡ r.g.taken = r.words.taken_is in let k = r.saw.known id v at in let o = r.order in let under = o.marks_drawn in let small = o.small in dite (ℕ_discrete t 0)
      (λ hit. let h = r.home.home (sym is ∙ hit) in let b : Shelved = record { book = r.g.book; mark = r.g.mark; spare = h.0 } in (
        with_book b v,
        takes 0 (Home b),
        h.1,
        subst (λ (n : ℕ). Rule (after s 2 n (set s.homes 0 none) id (with_book b v))) (sym (ap (λ c. either c mine t) (eq-eqb t 0 hit) ∙ is_own)) (keeps_book s r id v b sits hit h.1),
        ((λ _. (b, refl, record { grows = k.history; count = counted r.g.book r.g.mark; bounded = omega arith; marks = k.marks; held = r.booked.marked; drawn = all_as_drawn s r id v at; kept = r.kept.known id v at; sealed = λ n y. below_pin r.pins n id v at (r.sealed n y) })), λ not. absurd (not hit)),
      ))
      (λ miss. (
        with_refusal t v,
        keeps,
        tt,
        subst (λ (n : ℕ). Rule (after s 2 n s.homes id (with_refusal t v))) (sym (ap (λ c. either c mine t) (ne_eqb t 0 miss))) (keeps_refusal s r id v sits),
        ((λ hit. absurd (miss hit)), λ _. refl),
      ))
