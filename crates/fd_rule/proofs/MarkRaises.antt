-- Raising the mark keeps the rule.
use Rattle.std.proofs.Common.{◌≡◌, ℕ, ◌+◌, ◌<◌, ◌≤◌, false, sym, refl, ap, subst, arith}
use mathlib.Core.Logic.{dite}
use mathlib.Core.Option.{none}
use native.Mathlib.Decide.{dec_lt}
use Rattle.atomic_table.specs.Table.{step, keeps, Allows}
use Rattle.fd_kinds.specs.Parts.{PartMeaning}
use Rattle.fd_kinds.specs.History.{History}
use Rattle.fd_kinds.specs.Stores.{Grows}
use Rattle.fd_shelf.specs.Books.{Book, Shelved, all_parts}
use Rattle.fd_shelf.specs.Histories.{hist}
use Rattle.fd_shelf.specs.Numbers.{IsIn}
use Rattle.fd_rule.specs.Tables.{TableState, Seated, Sits, after}
use Rattle.fd_rule.specs.View.{View}
use Rattle.fd_rule.specs.Rule.{Ruled}
use Rattle.fd_rule.proofs.Stay.{moves, same}
use Rattle.fd_rule.proofs.Sets.{store_mark}
use Rattle.fd_rule.proofs.PinChanges.{pins_same, pins_up}
use Rattle.fd_rule.proofs.BookChanges.{grows_same, grows_then, hist_grows}
use Rattle.fd_rule.proofs.Keep.{upto_later, all_map, roster_same, lanes_same, lives_same, counts_same}
use Rattle.fd_rule.specs.Kinds.MarkRaise.{Happens, MayRaise, with_raised, told}

module _ (P : Type 0) (means : P → PartMeaning) (start : Shelved) (seats : ℕ) where
  abbrev Rule : TableState P → Type 0
  Rule = Ruled means start seats

  keeps_raised : (m : ℕ) (s : TableState P) (r : Rule s) (id : ℕ) (v : View) → Sits s id v → MayRaise m v.turn → Rule (after s 1 m s.homes id (with_raised m v))
  keeps_raised m s r id v sits may = let at = sits.at in let live = sits.live in let le = may.rises in let w : View = with_raised m v in let h = r.hands.known id v at may.holds in let k = r.saw.known id v at in let mine = h.mine in let mark_is = h.mark_is in let o = r.order in let base_low = r.booked.low in
      let here : (n : ℕ) → r.g.mark < n → n ≤ m → IsIn n (all_parts r.g.book) = λ n a b. subst (λ (x : Book). IsIn n (all_parts x)) h.book_is (may.held n (omega (arith, a, mark_is)) b) in
      let up : r.g.mark ≤ m = omega arith in
      let drawn_low : m ≤ r.g.drawn = dite (dec_lt r.g.mark m) (λ yes. r.booked.held m (here m yes (omega arith))) (λ no. let z = o.marks_drawn in omega arith) in
      let more : Grows (hist r.g.book r.g.mark) (hist r.g.book m) = hist_grows r.g.book r.g.mark m up in
      let past : hist v.turn.book m ≡ hist r.g.book m = ap (λ (x : Book). hist x m) h.book_is in record {
        g = record r.g { mark = m };
        words = store_mark r.words m;
        order = let a = o.opening_low in let b = o.synced_low in let c = o.floor_low in record { opening_low = omega arith; marks_drawn = drawn_low; small = o.small; synced_low = omega arith; floor_low = omega arith };
        home = record { deep = r.home.deep; home = λ e. absurd (omega arith) };
        booked = record {
          base = r.booked.base;
          well = r.booked.well;
          low = omega arith;
          marked = λ n a b. dite (dec_lt r.g.mark n) (λ yes. here n yes b) (λ no. r.booked.marked n a (omega arith));
          held = r.booked.held;
          rows = r.booked.rows;
          began = grows_then (hist start.book start.mark) (hist r.g.book r.g.mark) (hist r.g.book m) r.booked.began more;
        };
        sealed = r.sealed;
        lanes = lanes_same s.views id w r.lanes;
        counts = counts_same id v w at r.counts refl refl refl refl;
        roster = roster_same id v w at refl r.roster;
        lives = lives_same id v w at live refl refl r.lives;
        draws = same id w v at refl r.draws;
        hands = moves id w (λ _. record { mine = mine; book_is = h.book_is; mark_is = refl; hand = h.hand }) (λ j x other p known its. let n : r.g.taken ≡ j + 1 = (known its).mine in absurd (other (omega arith))) r.hands;
        saw = moves id w record { history = subst (λ (x : History). Grows x (hist r.g.book m)) (sym past) (grows_same (hist r.g.book m)); marks = upto_later r.g.mark m v.seen.marks up k.marks; drawns = k.drawns; synceds = k.synceds; others = all_map v.seen.others (λ h q. grows_then h (hist r.g.book r.g.mark) (hist r.g.book m) q more) k.others }
            (λ j x other p known. record { history = grows_then x.seen.history (hist r.g.book r.g.mark) (hist r.g.book m) known.history more; marks = upto_later r.g.mark m x.seen.marks up known.marks; drawns = known.drawns; synceds = known.synceds; others = all_map x.seen.others (λ h q. grows_then h (hist r.g.book r.g.mark) (hist r.g.book m) q more) known.others }) r.saw;
        kept = same id w v at refl r.kept;
        pins = pins_up (pins_same r.pins id v w at refl) m up;
      }

  pub mark_raise_event : (m id : ℕ) (s t : TableState P) → Rule s → Happens m id s t → Rule t
  mark_raise_event m id s t r h = subst (λ x. Rule x) (sym h.becomes) (keeps_raised m s r id h.view h.sits h.may)

  pub allows_mark_raise : (slots id m : ℕ) (me : Seated P) → me.0.place.spent ≡ false → MayRaise m me.0.turn → Allows Rule slots id me 1 (λ _. m) (λ _. told (step slots 1 m 0 none) me m)
  allows_mark_raise slots id m me live may s r deep at small = (with_raised m me.0, keeps, tt, keeps_raised m s r id me.0 record { at = at; live = live } may, refl)
