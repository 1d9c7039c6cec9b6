-- What holds still where one view changes little.
use Rattle.std.proofs.Common.{◌≡◌, ◌≢◌, ◌⊎◌, ℕ, zero, suc, ◌+◌, ◌-◌, ◌<◌, ◌≤◌, Bool, true, false, ◌||◌, ◌&&◌, cond, List, [], ◌∷◌, ◌++◌, length, set, min, sym, refl, ap, ◌∙◌, subst, ⊎_elim, inl, inr, arith, eqb, ne_eqb}
use mathlib.Core.Logic.{dite}
use mathlib.Core.Option.{Option, some}
use native.Mathlib.Decide.{ℕ_discrete}
use lib.ListN.{get_elem?}
use Rattle.fd_kinds.specs.declared.row.Row.{Row}
use Rattle.fd_kinds.specs.declared.limits.TheConstants.{MOST_NUMBERS}
use Rattle.fd_kinds.specs.Parts.{PartMeaning, loose_part}
use Rattle.fd_kinds.specs.Stores.{Written}
use Rattle.fd_shelf.specs.Books.{Book, Shelved, all_parts}
use Rattle.fd_shelf.specs.Books.{Each as AllOf}
use Rattle.fd_shelf.specs.Histories.{hist}
use Rattle.fd_shelf.specs.Numbers.{IsIn}
use Rattle.fd_rule.specs.Lists.{AllUpto, In, Tops}
use Rattle.fd_rule.specs.Tables.{TableState, Homes}
use Rattle.fd_rule.specs.View.{Place, Draws, View}
use Rattle.fd_rule.specs.Rule.{Each, place, whole, Stage, free, flying, full, looked, Words, LaneOk, Lanes, sum, one_if, count_of, count_in, owns, seated, holding, clearance, splitting, Counts, Placed, Roster, Live, Entry, Draw, Drawing, Hands, Saw, Kept, Pins, Ruled}
use Rattle.fd_rule.specs.declared.slot.SlotValue.{SlotValue}
use Rattle.fd_rule.proofs.Stay.{same, stays}
use Rattle.fd_rule.proofs.Sets.{length_set}
use Rattle.fd_rule.proofs.Sums.{sum_same}

pub upto_later : (m n : ℕ) (xs : List ℕ) → m ≤ n → AllUpto m xs → AllUpto n xs
upto_later m n [] le all = tt
upto_later m n (x ∷ xs) le (low, all) = (omega (arith, le, low), upto_later m n xs le all)

pub upto_more : (m x : ℕ) (xs : List ℕ) → x ≤ m → AllUpto m xs → AllUpto m (xs ++ x ∷ [])
upto_more m x [] le all = (le, tt)
upto_more m x (y ∷ xs) le (low, all) = (low, upto_more m x xs le all)

pub in_upto : (m x : ℕ) (xs : List ℕ) → In x xs → AllUpto m xs → x ≤ m
in_upto m x [] h all = absurd h
in_upto m x (y ∷ xs) (inl e) (low, all) = omega (arith, e, low)
in_upto m x (y ∷ xs) (inr h) (low, all) = in_upto m x xs h all

pub all_map : {A : Type 0} {K L : A → Type 0} (xs : List A) → ((x : A) → K x → L x) → AllOf K xs → AllOf L xs
all_map [] f all = tt
all_map (x ∷ xs) f (k, all) = (f x k, all_map xs f all)

pub all_append : {A : Type 0} (K : A → Type 0) (xs ys : List A) → AllOf K xs → AllOf K ys → AllOf K (xs ++ ys)
all_append K [] ys a b = b
all_append K (x ∷ xs) ys (k, a) b = (k, all_append K xs ys a b)

pub count_append : (n : ℕ) (xs ys : List Written) → count_of n (xs ++ ys) ≡ count_of n xs + count_of n ys
count_append n [] ys = omega arith
count_append n (x ∷ xs) ys = let h = count_append n xs ys in omega arith

pub in_append : (n : ℕ) (xs ys : List ℕ) → count_in n (xs ++ ys) ≡ count_in n xs + count_in n ys
in_append n [] ys = omega arith
in_append n (x ∷ xs) ys = let h = in_append n xs ys in omega arith

-- an entry is one of those of which K holds
pub entry_is : {K : Written → Type 0} (n : ℕ) (own : List Written) → Entry n own → AllOf K own → (o : Written) × (o.number ≡ n) × K o
entry_is n [] e all = absurd (omega arith)
entry_is n (o ∷ os) e (k, all) = dite (ℕ_discrete o.number n) (λ is. (o, is, k))
    (λ ne. let z : one_if (eqb o.number n) ≡ 0 = ap one_if (ne_eqb o.number n ne) in entry_is n os (omega arith) all)

pub tops_of : (drawn m : ℕ) (own : List Written) → drawn < m → AllOf (λ o. o.number ≤ drawn) own → Tops m own
tops_of drawn m [] le all = tt
tops_of drawn m (o ∷ os) le (k, all) = (omega (arith, le, k), tops_of drawn m os le all)

or_false : (a : Bool) → (a || false) ≡ true → a ≡ true
or_false true e = e
or_false false e = e

-- a flag that was set, or is set because two numbers are the same
pub flag_true : (a : Bool) (k m : ℕ) → (a || eqb k m) ≡ true → (a ≡ true) ⊎ (k ≡ m)
flag_true a k m e = dite (ℕ_discrete k m) (λ is. inr is) (λ ne. inl (or_false a (subst (λ b. (a || b) ≡ true) (ne_eqb k m ne) e)))

and_false : (a b : Bool) → b ≡ false → (a && b) ≡ false
and_false true b e = e
and_false false b e = refl

pub both_true : (a : Bool) (k m n : ℕ) → (a || (eqb k m && eqb n 0)) ≡ true → (a ≡ true) ⊎ ((k ≡ m) × (n ≡ 0))
both_true a k m n e = dite (ℕ_discrete k m)
    (λ is. dite (ℕ_discrete n 0) (λ zero_now. inr (is, zero_now)) (λ ne. inl (or_false a (subst (λ b. (a || b) ≡ true) (and_false (eqb k m) (eqb n 0) (ne_eqb n 0 ne)) e))))
    (λ ne. inl (or_false a (subst (λ b. (a || (b && eqb n 0)) ≡ true) (ne_eqb k m ne) e)))

pub by_stage : (F : Type 0) (x : Stage) → (x ≡ free → F) → (x ≡ flying → F) → (x ≡ full → F) → (x ≡ looked → F) → F
by_stage F free a b c d = a refl
by_stage F flying a b c d = b refl
by_stage F full a b c d = c refl
by_stage F looked a b c d = d refl

pub nth : {A : Type 0} (xs : List A) (k : ℕ) → k < length xs → (x : A) × (get_elem? xs k ≡ some x)
nth [] k h = absurd (omega arith)
nth (x ∷ xs) zero h = (x, refl)
nth (x ∷ xs) (suc k) h = nth xs k (omega arith)

pub lane_rows : {P : Type 0} (means : P → PartMeaning) (f f' : ℕ → List Row) (word : ℕ) (home : Option (Option (SlotValue P))) (st : Stage) → (0 < word → f word ≡ f' word) → LaneOk means f word home st → LaneOk means f' word home st
lane_rows means f f' word home free e k = k
lane_rows means f f' word home flying e k = k
lane_rows means f f' word home full e k = (k.0, (k.1.0, k.1.1, k.1.2 ∙ ap (loose_part word) (e k.0)))
lane_rows means f f' word home looked e k = k

pub draw_flag : {start drawn word : ℕ} {book : Book} {batch_of : ℕ → List Row} {st : Stage} (d : Draws) (c e : Bool) → (e ≡ true → word ≡ 0) → Draw start drawn book batch_of word st d → Draw start drawn book batch_of word st (record d { cleared = c; empty = e })
draw_flag d c e empty k = record { own = k.own; lies = k.lies; flies = λ n. let f = k.flies n in record { out = f.out; entry = f.entry; rows = f.rows; outside = f.outside }; rests = k.rests; empty = empty }

-- the lane is at another stage, and flies at neither
pub draw_stage : {start drawn word : ℕ} {book : Book} {batch_of : ℕ → List Row} {st : Stage} (st' : Stage) (d : Draws) → st ≢ flying → st' ≢ flying → Draw start drawn book batch_of word st d → Draw start drawn book batch_of word st' d
draw_stage st' d old new k = record { own = k.own; lies = k.lies; flies = λ n. absurd (old (k.flies n).out); rests = λ _. new; empty = k.empty }

-- the book has the same numbers
pub draw_book : {start drawn word : ℕ} {book book' : Book} {batch_of : ℕ → List Row} {st : Stage} (d : Draws) → ((n : ℕ) → IsIn n (all_parts book) → IsIn n (all_parts book')) → ((n : ℕ) → IsIn n (all_parts book') → IsIn n (all_parts book))
    → Draw start drawn book batch_of word st d → Draw start drawn book' batch_of word st d
draw_book {start} {drawn} {word} {book} {book'} {batch_of} {st} d forth back k = record {
  own = all_map d.own (λ o x. record { above = x.above; below = x.below; rows = x.rows; small = x.small; landed = λ n. ⊎_elim (λ h. inl (forth o.number h)) (λ e. inr e) (x.landed n) }) k.own;
  lies = λ h. let t = k.lies h in (t.0, λ x. t.1 (back word x));
  flies = λ n. let f = k.flies n in record { out = f.out; entry = f.entry; rows = f.rows; outside = λ x. f.outside (back d.flight x) };
  rests = k.rests;
  empty = k.empty;
}

pub lanes_same : {P : Type 0} {means : P → PartMeaning} {seats taken : ℕ} {homes : Homes P} {lane : ℕ → ℕ} {stage : ℕ → Stage} {batch_of : ℕ → List Row} (vs : List View) (id : ℕ) (w : View) → Lanes means seats homes taken lane stage batch_of (length vs) → Lanes means seats homes taken lane stage batch_of (length (set vs id w))
lanes_same vs id w l = let n = length_set vs id w in record { ok = l.ok; unsplit = λ k h. l.unsplit k (omega (arith, h, n)); none_looked = l.none_looked }

module _ {vs : List View} (id : ℕ) (v w : View) (at : get_elem? vs id ≡ some v) where
  pub roster_same : {seats splitter : ℕ} → w.place ≡ v.place → Roster seats splitter vs → Roster seats splitter (set vs id w)
  roster_same {seats} {splitter} e h = let n = length_set vs id w in let c = h.count in record { few = h.few; count = omega arith; places = subst (λ (n : ℕ). Each place (set vs id w) (Placed n splitter)) (sym n) (same id w v at e h.places) }

  pub lives_same : {synced : ℕ} → v.place.spent ≡ false → w.place ≡ v.place → w.seen.announced ≡ v.seen.announced → Each whole vs (Live synced) → Each whole (set vs id w) (Live synced)
  lives_same {synced} live e a all = let old = all.known id v at in stays id w record { gone = λ s. let x : w.place.spent ≡ false = ap (λ (p : Place). p.spent) e ∙ live in absurd (cc); announced = λ _ z. a ∙ old.announced live z } all

  module _ {start drawn taken : ℕ} (c : Counts start drawn taken vs) where
    pub numbers_same : w.draws.own ≡ v.draws.own → (n : ℕ) → start < n → sum (owns n) (set vs id w) ≡ min 1 (drawn + 1 - n)
    numbers_same e n h = sum_same (owns n) vs id v w at (ap (count_of n) e) ∙ c.numbers n h

    pub seats_same : w.place ≡ v.place → (k : ℕ) → sum (seated k) (set vs id w) ≡ min 1 (length (set vs id w) - k)
    seats_same e k = let n = length_set vs id w in sum_same (seated k) vs id v w at (ap (λ (p : Place). cond p.spent 0 (count_in k (p.number ∷ p.joined))) e) ∙ (c.seats k ∙ ap (λ m. min 1 (m - k)) (sym n))

    pub holders_same : w.turn.holds ≡ v.turn.holds → sum holding (set vs id w) ≡ min 1 taken
    holders_same e = sum_same holding vs id v w at (ap one_if e) ∙ c.holders

    pub splitters_same : w.place ≡ v.place → sum splitting (set vs id w) ≡ 1
    splitters_same e = sum_same splitting vs id v w at (ap (λ (p : Place). one_if p.splits) e) ∙ c.splitters

    pub room_same : w.draws.cleared ≡ v.draws.cleared → start < drawn + sum clearance (set vs id w) → drawn + sum clearance (set vs id w) ≤ MOST_NUMBERS + length (set vs id w)
    room_same e h = let n = length_set vs id w in let z = sum_same clearance vs id v w at (ap one_if e) in let x = c.room (omega (arith, h, z)) in omega (arith, x, z, n)

    pub counts_same : w.place ≡ v.place → w.draws.own ≡ v.draws.own → w.draws.cleared ≡ v.draws.cleared → w.turn.holds ≡ v.turn.holds → Counts start drawn taken (set vs id w)
    counts_same p o c h = record { numbers = numbers_same o; seats = seats_same p; holders = holders_same h; splitters = splitters_same p; room = room_same c }

module _ (P : Type 0) (means : P → PartMeaning) (start : Shelved) (seats : ℕ) where
  abbrev Rule : TableState P → Type 0
  Rule = Ruled means start seats

  -- a step that changes what the seat has seen, how it stands to its pin, and what it knows of its own draws
  pub looks : (s : TableState P) (r : Rule s) (id : ℕ) (v w : View) (ws : List ℕ) (pin pinned : ℕ → ℕ) → get_elem? s.views id ≡ some v → v.place.spent ≡ false → w.place ≡ v.place → w.turn.holds ≡ v.turn.holds → w.draws.own ≡ v.draws.own → w.seen.announced ≡ v.seen.announced
      → (start.mark < r.g.drawn + sum clearance (set s.views id w) → r.g.drawn + sum clearance (set s.views id w) ≤ MOST_NUMBERS + length (set s.views id w))
      → Words seats ws r.g.drawn r.g.mark r.g.taken r.g.synced r.g.floor r.g.lane pin
      → Drawing start.mark r.g.drawn r.g.book r.g.batch_of r.g.lane r.g.stage id w.draws
      → Hands seats r.g.taken r.g.mark r.g.book r.g.batch_of r.g.lane r.g.stage id w.turn
      → Saw r.g.drawn r.g.mark r.g.synced (hist r.g.book r.g.mark) id w.seen → Kept r.g.book id w.books
      → Pins r.g.mark r.g.floor pin pinned (set s.views id w)
      → Rule record { words = ws; homes = s.homes; views = set s.views id w }
  looks s r id v w ws pin pinned at live same_place same_hold same_own same_said room words drawn held known kept pins = record {
    g = record r.g { pin = pin; pinned = pinned };
    words = words;
    order = r.order;
    home = r.home;
    booked = r.booked;
    sealed = r.sealed;
    lanes = lanes_same s.views id w r.lanes;
    counts = record { numbers = numbers_same id v w at r.counts same_own; seats = seats_same id v w at r.counts same_place; holders = holders_same id v w at r.counts same_hold; splitters = splitters_same id v w at r.counts same_place; room = room };
    roster = roster_same id v w at same_place r.roster;
    lives = lives_same id v w at live same_place same_said r.lives;
    draws = stays id w drawn r.draws;
    hands = stays id w held r.hands;
    saw = stays id w known r.saw;
    kept = stays id w kept r.kept;
    pins = pins;
  }
