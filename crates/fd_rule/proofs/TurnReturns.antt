-- Giving back the turn keeps the rule.
use Rattle.std.proofs.Common.{◌≡◌, ◌≢◌, ℕ, ◌+◌, true, false, List, ◌∷◌, set, sym, refl, ap, ◌∙◌, subst, ⊎_elim, arith}
use mathlib.Core.Option.{none, some}
use Rattle.atomic_table.specs.Table.{step, gives, stepped, Allows, rest as others}
use Rattle.atomic_table.proofs.Lists.{set_here, set_else}
use Rattle.fd_kinds.specs.Parts.{PartMeaning}
use Rattle.fd_kinds.specs.History.{History}
use Rattle.fd_kinds.specs.Stores.{Grows}
use Rattle.fd_shelf.specs.Books.{Book, Shelved}
use Rattle.fd_shelf.specs.Marks.{IsBook}
use Rattle.fd_shelf.specs.Histories.{hist, in_row_order}
use Rattle.fd_shelf.specs.Numbers.{Keeps}
use Rattle.fd_rule.specs.Lists.{AllHeld, AllAsDrawn}
use Rattle.fd_rule.specs.Tables.{TableState, Seated, Sits, after}
use Rattle.fd_rule.specs.View.{Hand, View}
use Rattle.fd_rule.specs.Rule.{Each, seen, looked, LaneOk, one_if, holding, HandOk, Saw, Ruled}
use Rattle.fd_rule.specs.declared.slot.SlotValue.{SlotValue}
use Rattle.fd_rule.specs.declared.slot.SlotValue.TheVariants.{Home}
use Rattle.fd_rule.proofs.Stay.{moves, same, alike}
use Rattle.fd_rule.proofs.Sets.{length_set, store_taken}
use Rattle.fd_rule.proofs.Sums.{sum_set}
use Rattle.fd_rule.proofs.PinChanges.{pins_same}
use Rattle.fd_rule.proofs.BookChanges.{keeps_same, all_keep, batch_same}
use Rattle.fd_rule.proofs.Keep.{all_map, draw_book, roster_same, lives_same, numbers_same, seats_same, splitters_same, room_same}
use Rattle.fd_rule.specs.Kinds.TurnReturn.{Happens, MayReturn, SameRows, SealsUpto, book_in, with_given, told}

module _ (P : Type 0) (means : P → PartMeaning) (start : Shelved) (seats : ℕ) where
  abbrev Rule : TableState P → Type 0
  Rule = Ruled means start seats

  keeps_given : (sh : Shelved) (s : TableState P) (r : Rule s) (id : ℕ) (v : View) → Sits s id v → IsBook sh.book sh.mark → MayReturn sh v → Rule (after s 2 0 (set s.homes 0 (some (Home sh))) id (with_given sh.book v))
  keeps_given sh s r id v sits order may = let at = sits.at in let live = sits.live in let w : View = with_given sh.book v in let h = r.hands.known id v at may.holds in let mine = h.mine in let mark_is = h.mark_is in let marks = may.mark in let shelves = r.home.deep in let o = r.order in
      let same_rows : SameRows r.g.book sh.book = subst (λ (x : Book). SameRows x sh.book) h.book_is may.rows in let kept_book : Keeps r.g.book sh.book = subst (λ (x : Book). Keeps x sh.book) h.book_is may.keeps in
      let seals : SealsUpto v.pinning.raised r.g.book sh.book = subst (λ (x : Book). SealsUpto v.pinning.raised x sh.book) h.book_is may.sealed in let up = (r.pins.rests.known id v at).raised in
      let none_out : (k : ℕ) → r.g.stage k ≢ looked = subst (λ (x : Hand). HandOk seats r.g.lane r.g.stage r.g.batch_of x) may.hand h.hand in
      let holders = r.counts.holders in let held_once : one_if v.turn.holds ≡ 1 = ap one_if may.holds in let sums = sum_set holding s.views id v w at in let mark_now : sh.mark ≡ r.g.mark = marks ∙ mark_is in record {
        g = record r.g { book = sh.book; taken = 0 };
        words = store_taken r.words 0;
        order = o;
        home = record { deep = length_set s.homes 0 (some (Home sh)) ∙ shelves; home = λ _. (sh.spare, set_here s.homes 0 (some (Home sh)) (omega arith) ∙ ap (λ (m : ℕ). some (some (Home (record { book = sh.book; mark = m; spare = sh.spare })))) mark_now) };
        booked = record {
          base = sh.mark;
          well = order;
          low = omega arith;
          marked = λ n a b. same_rows.forth n (r.booked.marked n a b);
          held = λ n x. r.booked.held n (same_rows.back n x);
          rows = λ n a x. batch_same r.g.book sh.book n (omega arith) (same_rows.history n) ∙ r.booked.rows n a (same_rows.back n x);
          began = subst (λ (x : History). Grows (hist start.book start.mark) x) (sym (same_rows.history r.g.mark)) r.booked.began;
        };
        sealed = λ n x. ⊎_elim (λ y. r.sealed n y) (λ le. omega (arith, le, up)) (seals n x);
        lanes = let n = length_set s.views id w in record {
          ok = λ j i. subst (λ x. LaneOk means r.g.batch_of (r.g.lane j) x (r.g.stage j)) (sym (set_else s.homes 0 (1 + j) (some (Home sh)) (λ e. omega arith))) (r.lanes.ok j i);
          unsplit = λ j i. r.lanes.unsplit j (omega (arith, i, n));
          none_looked = λ _. none_out;
        };
        counts = record { numbers = numbers_same id v w at r.counts refl; seats = seats_same id v w at r.counts refl; holders = omega arith; splitters = splitters_same id v w at r.counts refl; room = room_same id v w at r.counts refl };
        roster = roster_same id v w at refl r.roster;
        lives = lives_same id v w at live refl refl r.lives;
        draws = same id w v at refl (alike (λ j x known. draw_book x same_rows.forth same_rows.back known) r.draws);
        hands = moves id w (λ e. cc) (λ j x other p known its. let n : r.g.taken ≡ j + 1 = (known its).mine in absurd (other (omega arith))) r.hands;
        saw = subst (λ (x : History). Each seen (set s.views id w) (Saw r.g.drawn r.g.mark r.g.synced x)) (sym (same_rows.history r.g.mark)) (same id w v at refl r.saw);
        kept = moves id w (keeps_same sh.book, all_keep r.g.book sh.book v.books kept_book (r.kept.known id v at)) (λ j x _ _ known. all_keep r.g.book sh.book x.books kept_book known) r.kept;
        pins = pins_same r.pins id v w at refl;
      }

  pub turn_return_event : (sh : Shelved) (id : ℕ) (s t : TableState P) → Rule s → Happens sh id s t → Rule t
  turn_return_event sh id s t r h = subst (λ x. Rule x) (sym h.becomes) (keeps_given sh s r id h.view h.sits h.order h.may)

  -- where its lane is empty, what the seat landed is in the book
  all_held : (sh : Shelved) (s : TableState P) (r : Rule s) (id : ℕ) (v : View) → Sits s id v → MayReturn sh v → v.draws.empty ≡ true → AllHeld v.draws.flight sh.book v.draws.own
  all_held sh s r id v sits may empty = let at = sits.at in let h = r.hands.known id v at may.holds in let d = r.draws.known id v at in let same_rows : SameRows r.g.book sh.book = subst (λ (x : Book). SameRows x sh.book) h.book_is may.rows in
      all_map v.draws.own (λ q x n. ⊎_elim (λ y. same_rows.forth q.number y) (λ e. let z = d.empty empty in let a = x.above in absurd (omega arith)) (x.landed n)) d.own

  -- each of its numbers that is in the book has the rows that it was drawn for
  all_as_drawn : (sh : Shelved) (s : TableState P) (r : Rule s) (id : ℕ) (v : View) → Sits s id v → MayReturn sh v → AllAsDrawn sh.book v.draws.own
  all_as_drawn sh s r id v sits may = let at = sits.at in let h = r.hands.known id v at may.holds in let same_rows : SameRows r.g.book sh.book = subst (λ (x : Book). SameRows x sh.book) h.book_is may.rows in
      all_map v.draws.own (λ o y x. let a = y.above in batch_same r.g.book sh.book o.number (omega arith) (same_rows.history o.number) ∙ (r.booked.rows o.number y.above (same_rows.back o.number x) ∙ ap in_row_order y.rows)) (r.draws.known id v at).own

  pub allows_turn_return : (slots id : ℕ) (me : Seated P) (sh : Shelved) → me.0.place.spent ≡ false → IsBook sh.book sh.mark → MayReturn sh me.0 → me.1 ≡ (0, Home sh) ∷ others me.1
      → Allows Rule slots id me 2 (λ _. 0) (λ _. told (step slots 2 0 0 none) me 0)
  allows_turn_return slots id me sh live order may carried s r deep at small = let v : View = me.0 in let sits : Sits s id v = record { at = at; live = live } in let book_now : book_in me.1 ≡ sh.book = ap book_in carried in (
    with_given (book_in me.1) v,
    gives,
    tt,
    subst (λ (x : Book). Rule (stepped s 2 0 id me.1 (with_given x v) gives)) (sym book_now) (subst (λ (c : List (ℕ × SlotValue P)). Rule (stepped s 2 0 id c (with_given sh.book v) gives)) (sym carried) (keeps_given sh s r id v sits order may)),
    (
      refl,
      (λ empty. subst (λ (x : Book). AllHeld v.draws.flight x v.draws.own) (sym book_now) (all_held sh s r id v sits may empty)),
      subst (λ (x : Book). AllAsDrawn x v.draws.own) (sym book_now) (all_as_drawn sh s r id v sits may),
    ),
  )
