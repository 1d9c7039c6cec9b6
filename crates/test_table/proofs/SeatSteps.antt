-- What the steps of a test make of a seat.
use Rattle.std.proofs.Common.{◌≡◌, ℕ, ◌^◌, ◌<◌, ◌≤◌, Bool, true, false, ◌||◌, ◌&&◌, List, [], ◌∷◌, ◌++◌, sym, refl, ap, ◌∙◌, subst, inl, inr, arith, cond, eqb, eq-eqb}
use mathlib.Core.Logic.{dite}
use native.Mathlib.Decide.{ℕ_discrete}
use Rattle.std.proofs.lemmas.Bool.{lt-ltb}
use Rattle.atomic_table.specs.Table.{rest}
use Rattle.fd_kinds.specs.declared.limits.TheConstants.{MOST_NUMBERS}
use Rattle.fd_kinds.specs.Parts.{PartMeaning, loose_part}
use Rattle.fd_kinds.specs.Stores.{Written}
use Rattle.fd_shelf.specs.Books.{Book, Shelved, all_parts}
use Rattle.fd_shelf.specs.Histories.{hist}
use Rattle.fd_shelf.specs.Numbers.{IsIn, IsInSealed, Keeps}
use Rattle.fd_shelf.specs.Steps.{admitted}
use Rattle.fd_rule.specs.Kinds.DrawnLoad.{with_drawn}
use Rattle.fd_rule.specs.Kinds.LaneClearance.{with_cleared}
use Rattle.fd_rule.specs.Kinds.LaneLoad.{Found, with_lane, with_none, with_some}
use Rattle.fd_rule.specs.Kinds.MarkRaise.{MayRaise, with_raised}
use Rattle.fd_rule.specs.Kinds.NumberDraw.{MayDraw}
use Rattle.fd_rule.specs.Kinds.SeatJoin.{join_of}
use Rattle.fd_rule.specs.Kinds.SeatSplit.{split_right}
use Rattle.fd_rule.specs.Kinds.TurnReturn.{MayReturn}
use Rattle.fd_rule.specs.Kinds.TurnTry.{with_book}
use Rattle.fd_rule.specs.Lists.{In}
use Rattle.fd_rule.specs.Rule.{count_in, one_if, seated}
use Rattle.fd_rule.specs.Tables.{Seated}
use Rattle.fd_rule.specs.View.{Place, View}
use Rattle.fd_rule.specs.declared.slot.SlotValue.{SlotValue}
use Rattle.fd_rule.specs.declared.slot.SlotValue.TheVariants.{Empty, Home, Landed}
use Rattle.test_table.specs.Seats.{AtRest, InHand}

or_true : (a : Bool) → (a || true) ≡ true
or_true true = refl
or_true false = refl

-- a seat that finds its own lane empty, and few numbers drawn, may draw
pub may_draw : (v : View) (k drawn : ℕ) → v.draws.flight ≡ 0 → k ≡ v.place.number → drawn < MOST_NUMBERS → MayDraw (with_drawn drawn (with_lane k 0 v)).draws
may_draw v k drawn landed own few = record {
  cleared = lt-ltb drawn MOST_NUMBERS few;
  empty = ap (λ b. v.draws.empty || (b && true)) (eq-eqb k v.place.number own) ∙ or_true v.draws.empty;
  landed = landed;
}

pub in_last : (w : ℕ) (ws : List ℕ) → In w (ws ++ w ∷ [])
in_last w [] = inl refl
in_last w (x ∷ ws) = inr (in_last w ws)

pub split_rests : {P : Type 0} (v : View) (m : Seated P) → m ≡ (split_right v, []) → AtRest m
split_rests {P} v m is = subst (λ (x : Seated P). AtRest x) (sym is) record { turn = refl; flight = refl; idles = refl; slots = refl }

abbrev part_in : {P : Type 0} → P → List (ℕ × SlotValue P) → P
part_in other [] = other
part_in other ((k, Landed part) ∷ xs) = part
part_in other ((k, Empty) ∷ xs) = other
part_in other ((k, Home shelf) ∷ xs) = other

-- the part on top of the slots
pub same_part : {P : Type 0} (p q : P) (k j : ℕ) (xs ys l : List (ℕ × SlotValue P)) → l ≡ (k, Landed p) ∷ xs → l ≡ (j, Landed q) ∷ ys → p ≡ q
same_part p q k j xs ys l a b = ap (part_in p) (sym a ∙ b)

pub held_first : {S : Type 0} {l : List (ℕ × S)} {x : ℕ × S} {xs : List (ℕ × S)} → l ≡ x ∷ xs → l ≡ x ∷ rest l
held_first {S} {l} {x} {xs} e = e ∙ ap (λ (ys : List (ℕ × S)). x ∷ ys) (sym (ap rest e))

has_it : (k x : ℕ) (xs ys : List ℕ) → x ≡ k → 0 < count_in k (xs ++ x ∷ ys)
has_it k x [] ys e = let z : one_if (eqb x k) ≡ 1 = ap one_if (eq-eqb x k e) in omega arith
has_it k x (a ∷ zs) ys e = let h = has_it k x zs ys e in omega (arith, h)

-- the numbers 0 and 1 stand in the view of a seat that has joined the other
pub both_seated : (v l r : View) (k : ℕ) → v.place ≡ (join_of l r).place → v.place.spent ≡ false → l.place.number ≡ 0 → r.place.number ≡ 1 → k < 2 → 0 < seated k v
both_seated v l r k place here first second inside =
    let live : seated k v ≡ count_in k (v.place.number ∷ v.place.joined) = ap (λ b. cond b 0 (count_in k (v.place.number ∷ v.place.joined))) here in
    let is : count_in k (v.place.number ∷ v.place.joined) ≡ count_in k (l.place.number ∷ (l.place.joined ++ r.place.number ∷ r.place.joined)) = ap (λ (p : Place). count_in k (p.number ∷ p.joined)) place in
    dite (ℕ_discrete k 0)
    (λ e. let z : one_if (eqb l.place.number k) ≡ 1 = ap one_if (eq-eqb l.place.number k (first ∙ sym e)) in omega arith)
    (λ ne. let h = has_it k r.place.number l.place.joined r.place.joined (omega (arith, second, ne, inside)) in omega arith)

module _ {P : Type 0} (means : P → PartMeaning) where
  pub taken : (shelf : Shelved) (m m' : Seated P) → AtRest m → m' ≡ (with_book shelf m.0, (0, Empty) ∷ m.1) → InHand shelf m'
  taken shelf m m' r is = subst (λ (x : Seated P). InHand shelf x) (sym is) record { holds = refl; hand = refl; book = refl; mark = refl; flight = r.flight; idles = r.idles; slots = ap (λ (l : List (ℕ × SlotValue P)). (0, Empty) ∷ l) r.slots }

  pub found_none : (lane : ℕ) (shelf : Shelved) (m m' : Seated P) → InHand shelf m → m' ≡ (with_none lane m.0, m.1) → InHand shelf m'
  found_none lane shelf m m' r is = subst (λ (x : Seated P). InHand shelf x) (sym is) record { holds = r.holds; hand = r.hand; book = r.book; mark = r.mark; flight = r.flight; idles = r.idles; slots = r.slots }

  pub found_some : (lane n : ℕ) (b : Written) (p : P) (q : PartMeaning) (shelf shelf' : Shelved) (m m' : Seated P) → InHand shelf m → Found means n b p m.0 → q ≡ means p → shelf' ≡ admitted q shelf → m' ≡ (with_cleared lane b (with_some lane b m.0), m.1) → InHand shelf' m'
  found_some lane n b p q shelf shelf' m m' r f q_is into is = let part : q ≡ loose_part b.number b.rows = q_is ∙ (f.part ∙ ap (λ z. loose_part z b.rows) (sym f.number)) in
      let now : shelf' ≡ admitted (loose_part b.number b.rows) shelf = into ∙ ap (λ z. admitted z shelf) part in
      subst (λ (x : Seated P × Shelved). InHand x.1 x.0) (λ i. (sym is i, sym now i)) record {
        holds = r.holds;
        hand = refl;
        book = ap (λ (x : Book). (admitted (loose_part b.number b.rows) (record { book = x; mark = shelf.mark; spare = shelf.spare })).book) r.book;
        mark = r.mark;
        flight = r.flight;
        idles = r.idles;
        slots = r.slots;
      }

  pub may_raise : (shelf new : Shelved) (m : Seated P) → InHand shelf m → all_parts new.book ≡ all_parts shelf.book → shelf.mark ≤ new.mark → ((n : ℕ) → 0 < n → n ≤ new.mark → IsIn n (all_parts new.book)) → MayRaise new.mark m.0.turn
  may_raise shelf new m r same up held = let mark_is = r.mark in record {
    holds = r.holds;
    rises = omega arith;
    held = λ n a b. subst (λ ps. IsIn n ps) (same ∙ sym (ap all_parts r.book)) (held n (omega (arith, a)) b);
  }

  pub may_return : (shelf new : Shelved) (m : Seated P) → InHand shelf m → all_parts new.book ≡ all_parts shelf.book → ((n : ℕ) → hist new.book n ≡ hist shelf.book n) → Keeps shelf.book new.book → MayReturn new (with_raised new.mark m.0)
  may_return shelf new m r same past keeps = let now : all_parts new.book ≡ all_parts m.0.turn.book = same ∙ sym (ap all_parts r.book) in record {
    holds = r.holds;
    hand = r.hand;
    mark = refl;
    rows = record {
      history = λ n. past n ∙ sym (ap (λ (x : Book). hist x n) r.book);
      forth = λ n h. subst (λ ps. IsIn n ps) (sym now) h;
      back = λ n h. subst (λ ps. IsIn n ps) now h;
    };
    keeps = subst (λ (x : Book). Keeps x new.book) (sym r.book) keeps;
    sealed = λ n h. inl (subst (λ ps. IsInSealed n ps) now h);
  }
