-- The opening state meets the rule.
use Rattle.std.proofs.Common.{◌≡◌, ℕ, zero, suc, ◌+◌, ◌*◌, ◌-◌, ◌<◌, ◌≤◌, List, [], ◌∷◌, ◌++◌, length, get_or, min, sym, refl, ap, ◌∙◌, subst, arith, append_assoc, eqb, ne_eqb}
use mathlib.Core.Option.{some}
use lib.ListN.{get_elem?}
use Rattle.atomic_table.specs.Table.{opening}
use Rattle.fd_kinds.specs.Parts.{PartMeaning}
use Rattle.fd_shelf.specs.Books.{Shelved, all_parts, settled_parts}
use Rattle.fd_shelf.specs.Marks.{IsBook}
use Rattle.fd_shelf.specs.Histories.{hist}
use Rattle.fd_shelf.specs.Numbers.{IsIn}
use Rattle.fd_rule.specs.declared.limits.TheConstants.{MOST_SEATS}
use Rattle.fd_rule.specs.Tables.{TableState, empties}
use Rattle.fd_rule.specs.View.{IDLE, NONE, View, first, idle_words}
use Rattle.fd_rule.specs.Rule.{free, one_if, Ruled}
use Rattle.fd_rule.specs.declared.slot.SlotValue.{SlotValue}
use Rattle.fd_rule.specs.declared.slot.SlotValue.TheVariants.{Empty, Home}
use Rattle.fd_rule.proofs.Stay.{alone}
use Rattle.fd_rule.proofs.BookChanges.{BookLaws, sealed_in, keeps_same, grows_same}
use Rattle.std.proofs.Common.{map}
use mathlib.Core.List.{append-nil}

module _ (P : Type 0) (means : P → PartMeaning) (start : Shelved) (seats : ℕ) where
  abbrev Rule : TableState P → Type 0
  Rule = Ruled means start seats

  abbrev all_slots : ℕ → List (SlotValue P)
  all_slots n = Home start ∷ empties n

  pub opens : (laws : BookLaws) (synced : ℕ) (ws : List ℕ) (slots : List (SlotValue P)) → 0 < seats → seats ≤ MOST_SEATS → synced ≤ start.mark → IsBook start.book start.mark → start.book.stragglers ≡ [] → ws ≡ start.mark ∷ start.mark ∷ 0 ∷ synced ∷ start.mark ∷ idle_words seats → slots ≡ Home start ∷ empties seats
      → Rule (opening ws slots (first start synced))
  opens laws synced ws slots at_least_one few low well none_wait words_are slots_are = let v : View = first start synced in let bounded = laws.bounded start.book start.mark well in let all_are : all_parts start.book ≡ settled_parts start.book = ap (λ l. settled_parts start.book ++ l) none_wait ∙ append-nil (settled_parts start.book) in
      let held_low : (n : ℕ) → IsIn n (all_parts start.book) → n ≤ start.mark = λ n h. laws.only start.book start.mark n well (subst (λ ps. IsIn n ps) all_are h) in
      subst (λ (z : List ℕ × List (SlotValue P)). Rule (opening z.0 z.1 v)) (λ i. (sym words_are i, sym slots_are i)) record {
        g = record { book = start.book; mark = start.mark; drawn = start.mark; taken = 0; synced = synced; floor = start.mark; lane = λ _. 0; stage = λ _. free; batch_of = λ _. []; pin = λ _. IDLE; pinned = λ _. NONE; splitter = 0 };
        words = record {
          wide = let n = idle_length seats in omega arith;
          drawn_is = refl;
          mark_is = refl;
          taken_is = refl;
          synced_is = refl;
          floor_is = refl;
          lane_is = λ k h. behind (start.mark ∷ start.mark ∷ 0 ∷ synced ∷ start.mark ∷ idle_words seats) start.mark start.mark 0 synced start.mark (idle_words seats) (2 * k) 0 refl (idle_lane seats k h) ∙ refl;
          pin_is = λ k h. let e : 2 * k + 6 ≡ (2 * k + 1) + 5 = omega arith in ap (λ n. get_or (start.mark ∷ start.mark ∷ 0 ∷ synced ∷ start.mark ∷ idle_words seats) n 0) e ∙ behind (start.mark ∷ start.mark ∷ 0 ∷ synced ∷ start.mark ∷ idle_words seats) start.mark start.mark 0 synced start.mark (idle_words seats) (2 * k + 1) IDLE refl (idle_pin seats k h);
        };
        order = record { opening_low = omega arith; marks_drawn = omega arith; small = bounded; synced_low = low; floor_low = omega arith };
        home = record { deep = let n = empty_length seats in omega arith; home = λ _. (start.spare, refl) };
        booked = record {
          base = start.mark;
          well = well;
          low = omega arith;
          marked = λ n a b. laws.held start.book start.mark n well a b;
          held = held_low;
          rows = λ n a h. let z = held_low n h in absurd (omega arith);
          began = grows_same (hist start.book start.mark);
        };
        sealed = λ n h. held_low n (sealed_in n (all_parts start.book) h);
        lanes = record { ok = λ k h. (refl, empty_at seats k h); unsplit = λ k h. refl; none_looked = λ _ k z. cc };
        counts = record { numbers = λ n h. omega arith; seats = λ k. one_seat k; holders = refl; splitters = refl; room = λ h. absurd (omega arith) };
        roster = record { few = few; count = at_least_one; places = alone v record { number = λ _. refl; splits = λ _. (refl, refl) } };
        lives = alone v record { gone = λ e. cc; announced = λ _ _. refl };
        draws = alone v record { own = tt; lies = λ h. absurd (omega arith); flies = λ n. absurd (n refl); rests = λ _ z. cc; empty = λ _. refl };
        hands = alone v (λ e. cc);
        saw = alone v record { history = grows_same (hist start.book start.mark); marks = tt; drawns = tt; synceds = tt; others = tt };
        kept = alone v (keeps_same start.book, tt);
        pins = record { below = λ k. omega arith; kept = λ k. omega (arith, bounded); beyond = λ k h. (refl, refl); rests = alone v record { state = (refl, refl); low = omega arith; passed = λ k h. absurd (omega arith); raised = omega arith } };
      }
    where
      one_seat : (k : ℕ) → (one_if (eqb 0 k) + 0) + 0 ≡ min 1 (1 - k)
      one_seat zero = refl
      one_seat (suc k) = let z : one_if (eqb 0 (suc k)) ≡ 0 = ap one_if (ne_eqb 0 (suc k) (λ e. omega arith)) in omega arith

      idle_length : (n : ℕ) → length (idle_words n) ≡ 2 * n
      idle_length zero = refl
      idle_length (suc n) = let h = idle_length n in omega arith

      idle_lane : (n k : ℕ) → k < n → get_or (idle_words n) (2 * k) 0 ≡ 0
      idle_lane zero k h = absurd (omega arith)
      idle_lane (suc n) zero h = refl
      idle_lane (suc n) (suc k) h = let e : 2 * suc k ≡ suc (suc (2 * k)) = omega arith in ap (λ z. get_or (0 ∷ IDLE ∷ idle_words n) z 0) e ∙ idle_lane n k (omega arith)

      idle_pin : (n k : ℕ) → k < n → get_or (idle_words n) (2 * k + 1) 0 ≡ IDLE
      idle_pin zero k h = absurd (omega arith)
      idle_pin (suc n) zero h = refl
      idle_pin (suc n) (suc k) h = let e : 2 * suc k + 1 ≡ suc (suc (2 * k + 1)) = omega arith in ap (λ z. get_or (0 ∷ IDLE ∷ idle_words n) z 0) e ∙ idle_pin n k (omega arith)

      behind : (l : List ℕ) (a b c d e : ℕ) (xs : List ℕ) (n x : ℕ) → l ≡ a ∷ b ∷ c ∷ d ∷ e ∷ xs → get_or xs n 0 ≡ x → get_or l (n + 5) 0 ≡ x
      behind l a b c d e xs n x is h = let s : n + 5 ≡ suc (suc (suc (suc (suc n)))) = omega arith in ap (λ (z : List ℕ × ℕ). get_or z.0 z.1 0) (λ i. (is i, s i)) ∙ h

      empty_length : (n : ℕ) → length (map some (empties {P = P} n)) ≡ n
      empty_length zero = refl
      empty_length (suc n) = let h = empty_length n in omega arith

      empty_at : (n k : ℕ) → k < n → get_elem? (map some (all_slots n)) (1 + k) ≡ some (some Empty)
      empty_at n k h = let e : 1 + k ≡ suc k = omega arith in ap (get_elem? (map some (all_slots n))) e ∙ inner n k h
        where
          inner : (n k : ℕ) → k < n → get_elem? (map some (empties {P = P} n)) k ≡ some (some Empty)
          inner zero k h = absurd (omega arith)
          inner (suc n) zero h = refl
          inner (suc n) (suc k) h = inner n k (omega arith)

both_more : (n : ℕ) → idle_words n ++ 0 ∷ IDLE ∷ [] ≡ idle_words (n + 1)
both_more zero = refl
both_more (suc n) = let next : suc (n + 1) ≡ suc n + 1 = omega arith in ap (λ l. 0 ∷ IDLE ∷ l) (both_more n) ∙ ap idle_words next

pub idle_more : (n : ℕ) → (idle_words n ++ 0 ∷ []) ++ IDLE ∷ [] ≡ idle_words (n + 1)
idle_more n = append_assoc (idle_words n) (0 ∷ []) (IDLE ∷ []) ∙ both_more n

pub empties_more : {P : Type 0} (n : ℕ) → empties {P = P} n ++ Empty ∷ [] ≡ empties (n + 1)
empties_more zero = refl
empties_more (suc n) = let next : suc (n + 1) ≡ suc n + 1 = omega arith in ap (λ l. Empty ∷ l) (empties_more n) ∙ ap empties next

pub idle_length : (n : ℕ) → length (idle_words n) ≡ 2 * n
idle_length zero = refl
idle_length (suc n) = let h = idle_length n in omega arith

pub words_wide : (ws : List ℕ) (a b c d e n : ℕ) → ws ≡ a ∷ b ∷ c ∷ d ∷ e ∷ idle_words n → length ws ≡ 2 * n + 5
words_wide ws a b c d e n is = let h = idle_length n in let l = ap length is in omega arith

pub empty_length : (P : Type 0) (n : ℕ) → length (empties {P = P} n) ≡ n
empty_length P zero = refl
empty_length P (suc n) = let h = empty_length P n in omega arith

pub slots_deep : {P : Type 0} (xs : List (SlotValue P)) (b : Shelved) (n : ℕ) → xs ≡ Home b ∷ empties n → length xs ≡ n + 1
slots_deep {P} xs b n is = let h = empty_length P n in let l = ap length is in omega arith
