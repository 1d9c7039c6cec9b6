-- Splitting off a seat keeps the rule.
use Rattle.std.proofs.Common.{◌≡◌, ℕ, ◌+◌, ◌<◌, true, false, List, [], ◌∷◌, ◌++◌, length, set, sym, refl, ap, ◌∙◌, subst, arith, length-append, eqb, eq-eqb, ne_eqb}
use mathlib.Core.Logic.{dite}
use native.Mathlib.Decide.{ℕ_discrete}
use lib.ListN.{get_elem?}
use Rattle.atomic_table.specs.Table.{Splits}
use Rattle.fd_kinds.specs.Parts.{PartMeaning}
use Rattle.fd_shelf.specs.Books.{Shelved}
use Rattle.fd_rule.specs.Tables.{TableState, Sits}
use Rattle.fd_rule.specs.View.{View}
use Rattle.fd_rule.specs.Rule.{Each, place, Stage, free, flying, LaneOk, sum, one_if, owns, seated, holding, clearance, splitting, Placed, Ruled}
use Rattle.fd_rule.proofs.Stay.{below, moves, same, grows}
use Rattle.fd_rule.proofs.Sets.{length_set}
use Rattle.fd_rule.proofs.Sums.{sum_same, sum_push}
use Rattle.fd_rule.proofs.PinChanges.{pins_same, pins_grow}
use Rattle.fd_rule.specs.Kinds.SeatSplit.{Happens, MaySplit, split_left, split_right}

module _ (P : Type 0) (means : P → PartMeaning) (start : Shelved) (seats : ℕ) where
  abbrev Rule : TableState P → Type 0
  Rule = Ruled means start seats

  keeps_split : (s : TableState P) (r : Rule s) (id : ℕ) (v : View) → Sits s id v → MaySplit seats v.place → Rule record { words = s.words; homes = s.homes; views = set s.views id (split_left v) ++ split_right v ∷ [] }
  keeps_split s r id v sits may = let at = sits.at in let live = sits.live in let can = may.splits in let inside = may.inside in let w : View = split_left v in let o : View = split_right v in let vs : List View = set s.views id w in let p = r.roster.places.known id v at in let mine = p.splits can in let next = mine.1 in
      let size_vs = length_set s.views id w in let size : length (vs ++ o ∷ []) ≡ length s.views + 1 = length-append vs (o ∷ []) ∙ ap (λ (n : ℕ). n + 1) size_vs in let k = r.saw.known id v at in let number = p.number live in
      let numbers_kept : (f : View → ℕ) → f w ≡ f v → f o ≡ 0 → sum f (vs ++ o ∷ []) ≡ sum f s.views = λ f e z. let a = sum_push f vs o in let b = sum_same f s.views id v w at e in omega arith in
      let clear = numbers_kept clearance refl refl in record {
        g = r.g;
        words = r.words;
        order = r.order;
        home = r.home;
        booked = r.booked;
        sealed = r.sealed;
        lanes = record { ok = r.lanes.ok; unsplit = λ j h. r.lanes.unsplit j (omega arith); none_looked = r.lanes.none_looked };
        counts = record {
          numbers = λ n h. numbers_kept (owns n) refl refl ∙ r.counts.numbers n h;
          seats = λ j. let a = sum_push (seated j) vs o in let b = sum_same (seated j) s.views id v w at refl in let c = r.counts.seats j in dite (ℕ_discrete v.place.next j)
              (λ e. let z : one_if (eqb v.place.next j) ≡ 1 = ap one_if (eq-eqb v.place.next j e) in omega arith) (λ ne. let z : one_if (eqb v.place.next j) ≡ 0 = ap one_if (ne_eqb v.place.next j ne) in omega arith);
          holders = numbers_kept holding refl refl ∙ r.counts.holders;
          splitters = numbers_kept splitting refl refl ∙ r.counts.splitters;
          room = λ h. let x = r.counts.room (omega (arith, h, clear)) in omega (arith, x, clear, size);
        };
        roster = record {
          few = r.roster.few;
          count = let c = r.roster.count in omega arith;
          places = subst (λ (n : ℕ). Each place (vs ++ o ∷ []) (Placed n r.g.splitter)) (sym size) (grows o record { number = λ _. next ∙ sym size_vs; splits = λ e. cc }
              (moves id w record { number = p.number; splits = λ _. (mine.0, ap (λ (n : ℕ). n + 1) next) }
              (λ j x other _ known. record { number = known.number; splits = λ e. absurd (other ((known.splits e).0 ∙ sym mine.0)) }) r.roster.places));
        };
        lives = grows o record { gone = λ e. cc; announced = λ _ z. let h = below s.views id v at in absurd (omega arith) } (moves id w record { gone = λ e. absurd (spent_not v live e); announced = (r.lives.known id v at).announced } (λ j x _ _ q. q) r.lives);
        draws = grows o record { own = tt; lies = λ h. absurd (none_lies r (length vs) (r.lanes.unsplit (length vs) (omega arith)) h (omega arith)); flies = λ n. absurd (n refl); rests = λ _ e. free_flying (r.g.stage (length vs)) (r.lanes.unsplit (length vs) (omega arith)) e; empty = λ e. cc } (same id w v at refl r.draws);
        hands = grows o (λ e. cc) (same id w v at refl r.hands);
        saw = grows o record { history = k.history; marks = tt; drawns = tt; synceds = tt; others = tt } (same id w v at refl r.saw);
        kept = grows o (r.kept.known id v at) (same id w v at refl r.kept);
        pins = pins_grow (pins_same r.pins id v w at refl) o refl;
      }
    where
      spent_not : (v : View) → v.place.spent ≡ false → v.place.spent ≡ true → ⊥
      spent_not v a b = cc

      free_flying : (x : Stage) → x ≡ free → x ≡ flying → ⊥
      free_flying x a b = cc

      none_lies : {s : TableState P} (r : Rule s) (k : ℕ) → r.g.stage k ≡ free → 0 < r.g.lane k → k < seats → ⊥
      none_lies {s} r k e h inside = let z = (subst (LaneOk means r.g.batch_of (r.g.lane k) (get_elem? s.homes (1 + k))) e (r.lanes.ok k inside)).0 in omega arith

  pub seat_split_event : (id : ℕ) (s t : TableState P) → Rule s → Happens seats id s t → Rule t
  seat_split_event id s t r h = subst (λ x. Rule x) (sym h.becomes) (keeps_split s r id h.view h.sits h.may)

  pub allows_split : (id : ℕ) (v : View) → v.place.spent ≡ false → MaySplit seats v.place → Splits Rule id v (split_left v) (split_right v)
  allows_split id v live may s r at = keeps_split s r id v record { at = at; live = live } may
