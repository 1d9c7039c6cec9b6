-- What a sweep does, on plain data.
use Rattle.std.proofs.Common.{◌≡◌, ℕ, ◌+◌, ◌<◌, ◌≤◌, Bool, true, false, ◌||◌, List, [], ◌∷◌, ◌++◌, sym, refl, ap, ◌∙◌, subst, inl, inr, arith, eqb, eq-eqb}
use mathlib.Core.List.{append-nil}
use mathlib.Core.Logic.{dite}
use native.Mathlib.Decide.{ℕ_discrete}
use Rattle.atomic_table.specs.Table.{rest}
use Rattle.fd_kinds.specs.Parts.{PartMeaning, loose_part}
use Rattle.fd_kinds.specs.Stores.{Grows, Holds, Written}
use Rattle.fd_shelf.specs.Books.{Book, Shelved, all_parts}
use Rattle.fd_shelf.specs.Histories.{hist}
use Rattle.fd_shelf.specs.Numbers.{IsIn, IsInSealed, Keeps}
use Rattle.fd_shelf.specs.Steps.{admitted}
use Rattle.fd_shelf.specs.Stragglers.{with_straggler}
use Rattle.fd_rule.specs.Kinds.LaneClearance.{with_cleared}
use Rattle.fd_rule.specs.Kinds.LaneLoad.{Found, with_none, with_some}
use Rattle.fd_rule.specs.Kinds.MarkRaise.{MayRaise, with_raised}
use Rattle.fd_rule.specs.Kinds.TurnReturn.{MayReturn, given_of, with_given}
use Rattle.fd_rule.specs.Kinds.TurnTry.{Later, with_book}
use Rattle.fd_rule.specs.Tables.{Seated}
use Rattle.fd_rule.specs.View.{View, Knowledge}
use Rattle.fd_rule.specs.declared.slot.SlotValue.{SlotValue}
use Rattle.fd_rule.specs.declared.slot.SlotValue.TheVariants.{Empty, Home, Landed}
use Rattle.fd_pool.specs.Kept.{HasDrawn, in_order, with_history}
use Rattle.fd_pool.specs.Sweeps.{GaveBack, Sweeping}
use Rattle.fd_pool.specs.Turns.{InHand}
use Rattle.fd_pool.proofs.DrawnRows.{taken_drawn}
use Rattle.fd_pool.proofs.TurnSteps.{grows_then}

or_left : (a b : Bool) → a ≡ true → (a || b) ≡ true
or_left true b e = refl
or_left false b e = absurd (cc)

or_right : (a b : Bool) → b ≡ true → (a || b) ≡ true
or_right true b e = refl
or_right false b e = e

abbrev part_in : {P : Type 0} → P → List (ℕ × SlotValue P) → P
part_in other [] = other
part_in other ((k, Landed part) ∷ xs) = part
part_in other ((k, Empty) ∷ xs) = other
part_in other ((k, Home shelf) ∷ xs) = other

-- the part on top of the slots
pub same_part : {P : Type 0} (p q : P) (k j : ℕ) (xs ys l : List (ℕ × SlotValue P)) → l ≡ (k, Landed p) ∷ xs → l ≡ (j, Landed q) ∷ ys → p ≡ q
same_part p q k j xs ys l a b = ap (part_in p) (sym a ∙ b)

pub held_first : {S : Type 0} {l : List (ℕ × S)} {x : ℕ × S} {xs : List (ℕ × S)} → l ≡ x ∷ xs → l ≡ x ∷ rest l
held_first {S} {l} {x} {xs} e = e ∙ ap (λ (ys : List (ℕ × S)). x ∷ ys) (sym (ap rest e))

module _ {P : Type 0} (means : P → PartMeaning) (seats : ℕ) where
  pub sweep_none : (m m' : Seated P) (shelf : Shelved) (lane : ℕ) → Sweeping seats m.0 m shelf lane → m' ≡ (with_none lane m.0, m.1) → Sweeping seats m.0 m' shelf (lane + 1)
  sweep_none m m' shelf lane r is = let v : View = m.0 in let s = r.spare in subst (λ (x : Seated P). Sweeping seats v x shelf (lane + 1)) (sym is) record {
    holds = r.holds;
    hand = r.hand;
    book = r.book;
    mark = r.mark;
    slots = r.slots;
    looked = λ k h. dite (ℕ_discrete k lane) (λ e. inl (sym e)) (λ ne. inr (r.looked k (omega arith)));
    lane = λ h. dite (ℕ_discrete lane v.place.number) (λ e. or_right v.draws.empty (eqb lane v.place.number) (eq-eqb lane v.place.number e)) (λ ne. or_left v.draws.empty (eqb lane v.place.number) (r.lane (omega arith)));
    past = refl;
    spare = omega arith;
    place = refl;
    own = refl;
    flight = refl;
    seen = refl;
    tries = refl;
    books = refl;
    pinning = refl;
  }

  pub sweep_some : (m m' : Seated P) (shelf shelf' : Shelved) (lane n : ℕ) (b : Written) (p : P) (q : PartMeaning) → Sweeping seats m.0 m shelf lane → Found means n b p m.0 → q ≡ means p → 0 < shelf.spare → shelf' ≡ admitted q shelf → hist (with_straggler b.number b.rows m.0.turn.book) m.0.turn.mark ≡ hist m.0.turn.book m.0.turn.mark
      → m' ≡ (with_cleared lane b (with_some lane b m.0), m.1) → Sweeping seats m.0 m' shelf' (lane + 1)
  sweep_some m m' shelf shelf' lane n b p q r f q_is some_room into past is = let v : View = m.0 in let s = r.spare in let part : q ≡ loose_part b.number b.rows = q_is ∙ (f.part ∙ ap (λ z. loose_part z b.rows) (sym f.number)) in
      let now : shelf' ≡ admitted (loose_part b.number b.rows) shelf = into ∙ ap (λ z. admitted z shelf) part in
      subst (λ (x : Seated P × Shelved). Sweeping seats v x.0 x.1 (lane + 1)) (λ i. (sym is i, sym now i)) record {
        holds = r.holds;
        hand = refl;
        book = ap (λ (x : Book). with_straggler b.number b.rows x) r.book;
        mark = r.mark;
        slots = r.slots;
        looked = λ k h. dite (ℕ_discrete k lane) (λ e. inl (sym e)) (λ ne. inr (r.looked k (omega arith)));
        lane = λ h. dite (ℕ_discrete lane v.place.number) (λ e. or_right v.draws.empty (eqb lane v.place.number) (eq-eqb lane v.place.number e)) (λ ne. or_left v.draws.empty (eqb lane v.place.number) (r.lane (omega arith)));
        past = past;
        spare = omega arith;
        place = refl;
        own = refl;
        flight = refl;
        seen = refl;
        tries = refl;
        books = refl;
        pinning = refl;
      }

  pub sweep_self : (old : View) (m : Seated P) (shelf : Shelved) (at : ℕ) → Sweeping seats old m shelf at → Sweeping seats m.0 m shelf at
  sweep_self old m shelf at r = let n : m.0.place.number ≡ old.place.number = ap (λ p. p.number) r.place in
      record { holds = r.holds; hand = r.hand; book = r.book; mark = r.mark; slots = r.slots; looked = r.looked; lane = λ h. r.lane (omega (arith, h, n)); past = refl; spare = r.spare; place = refl; own = refl; flight = refl; seen = refl; tries = refl; books = refl; pinning = refl }

  pub sweep_then : (old : View) (m m' : Seated P) (shelf shelf' : Shelved) (at at' : ℕ) → Sweeping seats old m shelf at → Sweeping seats m.0 m' shelf' at' → Sweeping seats old m' shelf' at'
  sweep_then old m m' shelf shelf' at at' r q = let n : m.0.place.number ≡ old.place.number = ap (λ p. p.number) r.place in record {
    holds = q.holds;
    hand = q.hand;
    book = q.book;
    mark = q.mark;
    slots = q.slots;
    looked = q.looked;
    lane = λ h. q.lane (omega (arith, h, n));
    past = q.past ∙ r.past;
    spare = q.spare;
    place = q.place ∙ r.place;
    own = q.own ∙ r.own;
    flight = q.flight ∙ r.flight;
    seen = q.seen ∙ r.seen;
    tries = q.tries ∙ r.tries;
    books = q.books ∙ r.books;
    pinning = q.pinning ∙ r.pinning;
  }

  pub sweep_hand : (old : View) (m : Seated P) (shelf : Shelved) (at : ℕ) → Sweeping seats old m shelf at → InHand shelf m
  sweep_hand old m shelf at r = record { holds = r.holds; hand = r.hand; book = r.book; mark = r.mark; slots = r.slots }

  pub sweep_begin : (v : View) (shelf shelf' : Shelved) (m : Seated P) → shelf'.book ≡ shelf.book → shelf'.mark ≡ shelf.mark → seats ≤ shelf'.spare → m ≡ (with_book shelf v, (0, Empty) ∷ []) → Sweeping seats m.0 m shelf' 0
  sweep_begin v shelf shelf' m same_book same_mark room is = subst (λ (x : Seated P). Sweeping seats x.0 x shelf' 0) (sym is) record {
    holds = refl;
    hand = refl;
    book = sym same_book;
    mark = sym same_mark;
    slots = refl;
    looked = λ k h. absurd (omega arith);
    lane = λ h. absurd (omega arith);
    past = refl;
    spare = omega arith;
    place = refl;
    own = refl;
    flight = refl;
    seen = refl;
    tries = refl;
    books = refl;
    pinning = refl;
  }

  pub gave_swept : (v : View) (shelf shelf' : Shelved) (m : Seated P) (at mark : ℕ) (book : Book) → Later shelf v → Grows (hist m.0.turn.book m.0.turn.mark) (hist m.0.turn.book mark) → Sweeping seats (with_book shelf v) m shelf' at → hist book mark ≡ hist m.0.turn.book mark
      → (HasDrawn m.0 → HasDrawn (with_given book (with_raised mark m.0)))
      → GaveBack v (given_of book (with_raised mark m.0)) (with_given book (with_raised mark m.0))
  gave_swept v shelf shelf' m at mark book later longer r same drawn = record {
    turned = record {
      kept = record {
        grows = grows_then v.seen.history (hist shelf.book shelf.mark) (hist m.0.turn.book mark) later.grows (subst (λ h. Grows h (hist m.0.turn.book mark)) r.past longer);
        seen = ap (λ (k : Knowledge). with_history (hist m.0.turn.book mark) k) r.seen;
        own = r.own;
        holds = λ h. drawn (subst (λ (d : Knowledge × List Written). Holds d.0.history (in_order d.1)) (λ i. (sym r.seen i, sym r.own i)) (taken_drawn shelf v later h));
        known = book ∷ shelf.book ∷ [];
        books = ap (λ bs. book ∷ bs) r.books;
        turns = given_of book (with_raised mark m.0) ∷ [];
        given = ap (λ t. t.given ++ given_of book (with_raised mark m.0) ∷ []) r.tries;
        busy = [];
        refused = ap (λ t. t.refused) r.tries ∙ sym (append-nil v.tries.refused);
        place = r.place;
        pinning = r.pinning;
      };
      given = ap (λ t. t.given ++ given_of book (with_raised mark m.0) ∷ []) r.tries;
      seen = sym same;
      others = shelf.book ∷ v.books;
      book = ap (λ bs. book ∷ bs) r.books;
    };
    refused = ap (λ t. t.refused) r.tries;
  }

  pub may_raise : (shelf new : Shelved) (m : Seated P) → InHand shelf m → all_parts new.book ≡ all_parts shelf.book → shelf.mark ≤ new.mark → ((n : ℕ) → 0 < n → n ≤ new.mark → IsIn n (all_parts new.book)) → MayRaise new.mark m.0.turn
  may_raise shelf new m r same up held = let mark_is = r.mark in record {
    holds = r.holds;
    rises = omega arith;
    held = λ n a b. subst (λ ps. IsIn n ps) (same ∙ sym (ap all_parts r.book)) (held n (omega (arith, a)) b);
  }

  pub may_return : (shelf new : Shelved) (m : Seated P) → InHand shelf m → all_parts new.book ≡ all_parts shelf.book → ((n : ℕ) → hist new.book n ≡ hist shelf.book n) → Keeps shelf.book new.book → MayReturn new (with_raised new.mark m.0)
  may_return shelf new m r same past keeps = let now : all_parts new.book ≡ all_parts m.0.turn.book = same ∙ sym (ap all_parts r.book) in record {
    holds = r.holds;
    hand = r.hand;
    mark = refl;
    rows = record {
      history = λ n. past n ∙ sym (ap (λ (x : Book). hist x n) r.book);
      forth = λ n h. subst (λ ps. IsIn n ps) (sym now) h;
      back = λ n h. subst (λ ps. IsIn n ps) now h;
    };
    keeps = subst (λ (x : Book). Keeps x new.book) (sym r.book) keeps;
    sealed = λ n h. inl (subst (λ ps. IsInSealed n ps) now h);
  }

-- the turn was given back as it was taken
pub gave_up : (v : View) (shelf : Shelved) (book : Book) → Later shelf v → hist book shelf.mark ≡ hist shelf.book shelf.mark → GaveBack v (given_of book (with_book shelf v)) (with_given book (with_book shelf v))
gave_up v shelf book later same = record {
  turned = record {
    kept = record {
      grows = later.grows;
      seen = refl;
      own = refl;
      holds = taken_drawn shelf v later;
      known = book ∷ shelf.book ∷ [];
      books = refl;
      turns = given_of book (with_book shelf v) ∷ [];
      given = refl;
      busy = [];
      refused = sym (append-nil v.tries.refused);
      place = refl;
      pinning = refl;
    };
    given = refl;
    seen = sym same;
    others = shelf.book ∷ v.books;
    book = refl;
  };
  refused = refl;
}
