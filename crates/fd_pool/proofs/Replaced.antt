-- Listed parts against the history, and a sealed part in place of others, on plain data.
use Rattle.std.proofs.Common.{◌≡◌, ◌⊎◌, ℕ, zero, suc, ◌+◌, ◌-◌, ◌<◌, ◌≤◌, Bool, true, false, if◌then◌else◌, List, [], ◌∷◌, ◌++◌, length, filter, flat_map, sym, refl, ap, ◌∙◌, subst, ⊎_elim, inl, inr, arith, length-append, Option, Some, None, Result, Ok, Err, IfOk, slice_get}
use Rattle.fd_kinds.specs.History.{History}
use Rattle.fd_kinds.specs.Parts.{PartMeaning, IsPart}
use Rattle.fd_kinds.specs.Stores.{Grows}
use Rattle.fd_shelf.specs.Books.{Any, Book, Shelved, all_parts, settled_parts}
use Rattle.fd_shelf.specs.Books.{Each as AllOf}
use Rattle.fd_shelf.specs.Histories.{hist, batch_at, batches_from}
use Rattle.fd_shelf.specs.Marks.{IsBook}
use Rattle.fd_shelf.specs.Numbers.{Holds, HoldsSealed, IsIn, IsInSealed, Keeps}
use Rattle.fd_shelf.specs.Replacement.{HasRowsOf, begins_above, ends_below, put_over, replaced}
use Rattle.fd_shelf.specs.Steps.{IsWholeAt}
use Rattle.fd_rule.specs.Kinds.TurnReturn.{MayReturn, SameRows, SealsUpto}
use Rattle.fd_rule.specs.Tables.{Seated}
use Rattle.fd_pool.specs.Lists.{SeenRows}
use Rattle.fd_pool.specs.Turns.{InHand}

pub if_ok_both : {A E : Type 0} {X Z Y : A → Type 0} (r : Result A E) → ((a : A) → X a → Z a → Y a) → IfOk r X → IfOk r Z → IfOk r Y
if_ok_both (Ok a) f x z = f a x z
if_ok_both (Err e) f x z = tt

pub batch_of : (parts : List PartMeaning) (number count i : ℕ) → i < count → slice_get (batches_from parts number count) i ≡ Some (batch_at parts (number + i))
batch_of parts number zero i inside = absurd (omega (arith, inside))
batch_of parts number (suc count) zero inside =
    let same : number ≡ number + zero = omega arith in
    ap (λ n. Some (batch_at parts n)) same
batch_of parts number (suc count) (suc i) inside =
    let same : number + 1 + i ≡ number + suc i = omega arith in
    batch_of parts (number + 1) count i (omega (arith, inside)) ∙ ap (λ n. Some (batch_at parts n)) same

pub nth_batch : (book : Book) (mark n : ℕ) → 0 < n → n ≤ mark → slice_get (hist book mark) (n - 1) ≡ Some (batch_at (all_parts book) n)
nth_batch book mark n some low = let is : 1 + (n - 1) ≡ n = omega (arith, some) in batch_of (all_parts book) 1 mark (n - 1) (omega (arith, some, low)) ∙ ap (λ k. Some (batch_at (all_parts book) k)) is

abbrev value_of : {A : Type 0} → A → Option A → A
value_of other None = other
value_of other (Some x) = x

-- what the parts of a shelf have, its history has
pub seen_rows : (book : Book) (mark : ℕ) (part : PartMeaning) → length (hist book mark) ≡ mark → 0 < part.lo → part.hi ≤ mark → HasRowsOf (all_parts book) part → SeenRows (hist book mark) part
seen_rows book mark part count some low has = record {
  counted = some;
  reaches = omega (arith, count, low);
  rows = λ n a b. nth_batch book mark n (omega (arith, some, a)) (omega (arith, b, low)) ∙ sym (ap (λ rows. Some rows) (has n a b));
}

-- what the seen history has, the parts of the shelf have
pub has_rows : (book : Book) (mark : ℕ) (part : PartMeaning) → length (hist book mark) ≡ mark → SeenRows (hist book mark) part → HasRowsOf (all_parts book) part
has_rows book mark part count r n a b = let some = r.counted in let low = r.reaches in
    ap (λ o. value_of (batch_at (part ∷ []) n) o) (sym (r.rows n a b) ∙ nth_batch book mark n (omega (arith, some, a)) (omega (arith, b, low, count)))

get_front : {A : Type 0} (xs ys : List A) (k : ℕ) → k < length xs → slice_get (xs ++ ys) k ≡ slice_get xs k
get_front [] ys k inside = absurd (omega arith)
get_front (x ∷ xs) ys zero inside = refl
get_front (x ∷ xs) ys (suc k) inside = get_front xs ys k (omega arith)

-- what an earlier history has, a later one has
pub rows_later : (old new : History) (part : PartMeaning) → Grows old new → SeenRows old part → SeenRows new part
rows_later old new part g r = let some = r.counted in let low = r.reaches in subst (λ h. SeenRows h part) (sym g.joined) record {
  counted = some;
  reaches = let n : length (old ++ g.more) ≡ length old + length g.more = length-append old g.more in omega arith;
  rows = λ n a b. get_front old g.more (n - 1) (omega (arith, some, low, a, b)) ∙ r.rows n a b;
}

whole_one : (b : Bool) (w : ℕ) (p : PartMeaning) → p.sealed ≡ b → IsPart p → ((n : ℕ) → HoldsSealed n p → n ≤ w) → IsWholeAt w p
whole_one true w p is part low = λ below. low p.hi (is, (part.ordered, omega arith))
whole_one false w p is part low = λ below. let e = part.one_number is in omega (arith, e, below)

-- where nothing is sealed past w, no part holds numbers on both sides of it
pub whole_all : (w : ℕ) (ps : List PartMeaning) → AllOf IsPart ps → ((n : ℕ) → IsInSealed n ps → n ≤ w) → AllOf (IsWholeAt w) ps
whole_all w [] are low = tt
whole_all w (p ∷ ps) are low = (whole_one p.sealed w p refl are.0 (λ n h. low n (inl h)), whole_all w ps are.1 (λ n h. low n (inr h)))

pub each_front : {A : Type 0} (K : A → Type 0) (xs ys : List A) → AllOf K (xs ++ ys) → AllOf K xs
each_front K [] ys all = tt
each_front K (x ∷ xs) ys all = (all.0, each_front K xs ys all.1)

module _ {A : Type 0} (K : A → Type 0) where
  any_front : (xs ys : List A) → Any K xs → Any K (xs ++ ys)
  any_front [] ys h = absurd h
  any_front (x ∷ xs) ys (inl h) = inl h
  any_front (x ∷ xs) ys (inr h) = inr (any_front xs ys h)

  pub any_back : (xs ys : List A) → Any K ys → Any K (xs ++ ys)
  any_back [] ys h = h
  any_back (x ∷ xs) ys h = inr (any_back xs ys h)

  any_either : (xs ys : List A) → Any K (xs ++ ys) → Any K xs ⊎ Any K ys
  any_either [] ys h = inr h
  any_either (x ∷ xs) ys (inl h) = inl (inl h)
  any_either (x ∷ xs) ys (inr h) = ⊎_elim (λ a. inl (inr a)) (λ b. inr b) (any_either xs ys h)

  any_by : (x : A) (xs ys : List A) (b : Bool) → (Any K ys → Any K xs) → Any K (if b then x ∷ ys else ys) → Any K (x ∷ xs)
  any_by x xs ys true rec (inl h) = inl h
  any_by x xs ys true rec (inr h) = inr (rec h)
  any_by x xs ys false rec h = inr (rec h)

  any_filter : (f : A → Bool) (xs : List A) → Any K (filter f xs) → Any K xs
  any_filter f [] h = h
  any_filter f (x ∷ xs) h = any_by x xs (filter f xs) (f x) (λ rest. any_filter f xs rest) h

pub settled_whole : (book : Book) (mark w : ℕ) → IsBook book mark → ((n : ℕ) → IsInSealed n (all_parts book) → n ≤ w) → AllOf (IsWholeAt w) (settled_parts book)
settled_whole book mark w order low = whole_all w (settled_parts book) (each_front IsPart (settled_parts book) book.stragglers order.well_formed.parts) (λ n h. low n (any_front (HoldsSealed n) (settled_parts book) book.stragglers h))

-- what is so of a part of the shelf with the part in place of others is so of a part of the shelf before, or of this part
replaced_any : (K : PartMeaning → Type 0) (shelf : Shelved) (part : PartMeaning) → Any K (all_parts (replaced part shelf).book) → Any K (all_parts shelf.book) ⊎ K part
replaced_any K shelf part h = ⊎_elim
    (λ x. ⊎_elim (λ c. inl (old_settled (any_front K flat shelf.book.active c))) (λ a. over a) (any_either K flat (put_over part shelf.book.active) x))
    (λ y. inl (any_back K (settled_parts shelf.book) shelf.book.stragglers y))
    (any_either K (settled_parts (replaced part shelf).book) shelf.book.stragglers h)
  where
    flat : List PartMeaning
    flat = flat_map (λ (block : List PartMeaning). block) shelf.book.closed

    old_settled : Any K (settled_parts shelf.book) → Any K (all_parts shelf.book)
    old_settled x = any_front K (settled_parts shelf.book) shelf.book.stragglers x

    old_active : Any K shelf.book.active → Any K (all_parts shelf.book)
    old_active x = old_settled (any_back K flat shelf.book.active x)

    behind : Any K (part ∷ filter (begins_above part.hi) shelf.book.active) → Any K (all_parts shelf.book) ⊎ K part
    behind (inl k) = inr k
    behind (inr x) = inl (old_active (any_filter K (begins_above part.hi) shelf.book.active x))

    over : Any K (put_over part shelf.book.active) → Any K (all_parts shelf.book) ⊎ K part
    over x = ⊎_elim (λ a. inl (old_active (any_filter K (ends_below part.lo) shelf.book.active a))) (λ b. behind b) (any_either K (filter (ends_below part.lo) shelf.book.active) (part ∷ filter (begins_above part.hi) shelf.book.active) x)

-- a shelf that took a part in place of others may go home
pub may_go_home : {P : Type 0} (shelf new : Shelved) (part : PartMeaning) (m : Seated P) → InHand shelf m → new ≡ replaced part shelf → ((n : ℕ) → hist new.book n ≡ hist shelf.book n) → Keeps shelf.book new.book → ((n : ℕ) → 0 < n → n ≤ shelf.mark → IsIn n (all_parts shelf.book)) → 0 < part.lo → part.hi ≤ shelf.mark → part.hi ≤ m.0.pinning.raised
    → MayReturn new m.0
may_go_home {P} shelf new part m r is history keeps held some low floor = record {
  holds = r.holds;
  hand = r.hand;
  mark = ap (λ (s : Shelved). s.mark) is ∙ sym r.mark;
  rows = subst (λ (b : Book). SameRows b new.book) (sym r.book) record {
    history = history;
    forth = keeps.numbers;
    back = λ n h. ⊎_elim (λ x. x) (λ k. held n (omega (arith, some, k.0)) (omega (arith, low, k.1))) (replaced_any (Holds n) shelf part (subst (λ (s : Shelved). IsIn n (all_parts s.book)) is h));
  };
  keeps = subst (λ (b : Book). Keeps b new.book) (sym r.book) keeps;
  sealed = subst (λ (b : Book). SealsUpto m.0.pinning.raised b new.book) (sym r.book) (λ n h. ⊎_elim (λ x. inl x) (λ k. let high = k.1.1 in inr (omega (arith, floor, high))) (replaced_any (HoldsSealed n) shelf part (subst (λ (s : Shelved). IsInSealed n (all_parts s.book)) is h)));
}
