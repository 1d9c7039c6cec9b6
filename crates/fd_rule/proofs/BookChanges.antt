-- What a book keeps, which numbers it has after a batch came to it, and how histories grow.
use Rattle.std.proofs.Common.{◌≡◌, ◌≢◌, ◌⊎◌, ℕ, zero, suc, ◌+◌, ◌-◌, ◌<◌, ◌≤◌, ◌^◌, Bool, true, false, nat_lt, if◌then◌else◌, List, [], ◌∷◌, ◌++◌, length, sym, refl, ap, ◌∙◌, subst, ⊎_elim, inl, inr, arith, append_assoc}
use mathlib.Core.List.{append-nil}
use mathlib.Core.Option.{some, some-injective}
use lib.ListN.{get_elem?}
use Rattle.fd_kinds.specs.declared.row.Row.{Row}
use Rattle.fd_kinds.specs.Parts.{PartMeaning, rows_of, with_number, loose_part}
use Rattle.fd_kinds.specs.History.{History, IsSmall}
use Rattle.fd_kinds.specs.Stores.{Grows}
use Rattle.fd_shelf.specs.Books.{Book, all_parts, settled_parts}
use Rattle.fd_shelf.specs.Marks.{IsBook}
use Rattle.fd_shelf.specs.Books.{Each as AllOf}
use Rattle.fd_shelf.specs.Histories.{hist, batch_at, batches_from, in_row_order}
use Rattle.fd_shelf.specs.Numbers.{Holds, HoldsSealed, IsIn, IsInSealed, Keeps}
use Rattle.fd_shelf.specs.Stragglers.{with_straggler}
use Rattle.fd_shelf.specs.Steps.{placed}

-- the laws of `straggler_laws`
pub record StragglerLaws : Type 0 where
  pub book : (book : Book) (mark number : ℕ) (rows : List Row) → IsBook book mark → mark < number → number < 2 ^ 63 → (IsIn number (all_parts book) → ⊥) → IsSmall rows → IsBook (with_straggler number rows book) mark
  pub batch : (book : Book) (mark number : ℕ) (rows : List Row) → IsBook book mark → mark < number → (IsIn number (all_parts book) → ⊥) → batch_at (all_parts (with_straggler number rows book)) number ≡ in_row_order rows
  pub others : (book : Book) (number : ℕ) (rows : List Row) (n : ℕ) → n ≢ number → batch_at (all_parts (with_straggler number rows book)) n ≡ batch_at (all_parts book) n
  pub history : (book : Book) (mark number : ℕ) (rows : List Row) → mark < number → hist (with_straggler number rows book) mark ≡ hist book mark

-- those of `book_laws`
pub record BookLaws : Type 0 where
  pub bounded : (book : Book) (mark : ℕ) → IsBook book mark → mark < 2 ^ 63
  pub count : (book : Book) (mark : ℕ) → length (hist book mark) ≡ mark
  pub held : (book : Book) (mark n : ℕ) → IsBook book mark → 0 < n → n ≤ mark → IsIn n (all_parts book)
  pub only : (book : Book) (mark n : ℕ) → IsBook book mark → IsIn n (settled_parts book) → n ≤ mark

pub in_front : (n : ℕ) (xs ys : List PartMeaning) → IsIn n xs → IsIn n (xs ++ ys)
in_front n [] ys h = absurd h
in_front n (p ∷ ps) ys (inl h) = inl h
in_front n (p ∷ ps) ys (inr h) = inr (in_front n ps ys h)

pub in_back : (n : ℕ) (xs ys : List PartMeaning) → IsIn n ys → IsIn n (xs ++ ys)
in_back n [] ys h = h
in_back n (p ∷ ps) ys h = inr (in_back n ps ys h)

pub in_either : (n : ℕ) (xs ys : List PartMeaning) → IsIn n (xs ++ ys) → IsIn n xs ⊎ IsIn n ys
in_either n [] ys h = inr h
in_either n (p ∷ ps) ys (inl h) = inl (inl h)
in_either n (p ∷ ps) ys (inr h) = ⊎_elim (λ a. inl (inr a)) (λ b. inr b) (in_either n ps ys h)

-- a number of a sealed part is one of the parts
pub sealed_in : (n : ℕ) (ps : List PartMeaning) → IsInSealed n ps → IsIn n ps
sealed_in n [] h = h
sealed_in n (p ∷ ps) (inl h) = inl h.1
sealed_in n (p ∷ ps) (inr h) = inr (sealed_in n ps h)

new_by : (n : ℕ) (p q : PartMeaning) (qs : List PartMeaning) (b : Bool) → Holds n p → IsIn n (placed p qs) → IsIn n (if b then p ∷ q ∷ qs else q ∷ placed p qs)
new_by n p q qs true h rec = inl h
new_by n p q qs false h rec = inr rec

placed_new : (n : ℕ) (p : PartMeaning) (qs : List PartMeaning) → Holds n p → IsIn n (placed p qs)
placed_new n p [] h = inl h
placed_new n p (q ∷ qs) h = new_by n p q qs (nat_lt p.lo q.lo) h (placed_new n p qs h)

old_by : (n : ℕ) (p q : PartMeaning) (qs : List PartMeaning) (b : Bool) → Holds n q ⊎ IsIn n qs → (IsIn n qs → IsIn n (placed p qs)) → IsIn n (if b then p ∷ q ∷ qs else q ∷ placed p qs)
old_by n p q qs true h rec = inr h
old_by n p q qs false (inl h) rec = inl h
old_by n p q qs false (inr h) rec = inr (rec h)

placed_old : (n : ℕ) (p : PartMeaning) (qs : List PartMeaning) → IsIn n qs → IsIn n (placed p qs)
placed_old n p [] h = absurd h
placed_old n p (q ∷ qs) h = old_by n p q qs (nat_lt p.lo q.lo) h (placed_old n p qs)

less_by : (n : ℕ) (p q : PartMeaning) (qs : List PartMeaning) (b : Bool) → IsIn n (if b then p ∷ q ∷ qs else q ∷ placed p qs) → (IsIn n (placed p qs) → Holds n p ⊎ IsIn n qs) → Holds n p ⊎ (Holds n q ⊎ IsIn n qs)
less_by n p q qs true h rec = h
less_by n p q qs false (inl h) rec = inr (inl h)
less_by n p q qs false (inr h) rec = ⊎_elim (λ a. inl a) (λ b. inr (inr b)) (rec h)

placed_less : (n : ℕ) (p : PartMeaning) (qs : List PartMeaning) → IsIn n (placed p qs) → Holds n p ⊎ IsIn n qs
placed_less n p [] h = h
placed_less n p (q ∷ qs) h = less_by n p q qs (nat_lt p.lo q.lo) h (placed_less n p qs)

sealed_front : (n : ℕ) (xs ys : List PartMeaning) → IsInSealed n xs → IsInSealed n (xs ++ ys)
sealed_front n [] ys h = absurd h
sealed_front n (p ∷ ps) ys (inl h) = inl h
sealed_front n (p ∷ ps) ys (inr h) = inr (sealed_front n ps ys h)

sealed_back : (n : ℕ) (xs ys : List PartMeaning) → IsInSealed n ys → IsInSealed n (xs ++ ys)
sealed_back n [] ys h = h
sealed_back n (p ∷ ps) ys h = inr (sealed_back n ps ys h)

sealed_either : (n : ℕ) (xs ys : List PartMeaning) → IsInSealed n (xs ++ ys) → IsInSealed n xs ⊎ IsInSealed n ys
sealed_either n [] ys h = inr h
sealed_either n (p ∷ ps) ys (inl h) = inl (inl h)
sealed_either n (p ∷ ps) ys (inr h) = ⊎_elim (λ a. inl (inr a)) (λ b. inr b) (sealed_either n ps ys h)

sealed_by : (n : ℕ) (p q : PartMeaning) (qs : List PartMeaning) (b : Bool) → (HoldsSealed n p → ⊥) → IsInSealed n (if b then p ∷ q ∷ qs else q ∷ placed p qs) → (IsInSealed n (placed p qs) → IsInSealed n qs) → IsInSealed n (q ∷ qs)
sealed_by n p q qs true none (inl h) rec = absurd (none h)
sealed_by n p q qs true none (inr h) rec = h
sealed_by n p q qs false none (inl h) rec = inl h
sealed_by n p q qs false none (inr h) rec = inr (rec h)

-- a loose part seals no number
placed_sealed : (n : ℕ) (p : PartMeaning) (qs : List PartMeaning) → (HoldsSealed n p → ⊥) → IsInSealed n (placed p qs) → IsInSealed n qs
placed_sealed n p [] none (inl h) = none h
placed_sealed n p [] none (inr h) = h
placed_sealed n p (q ∷ qs) none h = sealed_by n p q qs (nat_lt p.lo q.lo) none h (placed_sealed n p qs none)

pub its_rows : (n : ℕ) (rows : List Row) → rows_of (with_number n rows) ≡ rows
its_rows n [] = refl
its_rows n (r ∷ rows) = ap (λ rs. r ∷ rs) (its_rows n rows)

pub keeps_same : (b : Book) → Keeps b b
keeps_same b = record { closed = λ block lo hi h. h; blocks = λ block n h. h; sealed = λ n h. h; numbers = λ n h. h }

pub keeps_then : (a b c : Book) → Keeps a b → Keeps b c → Keeps a c
keeps_then a b c k l = record {
  closed = λ block lo hi h. l.closed block lo hi (k.closed block lo hi h);
  blocks = λ block n h. l.blocks block n (k.blocks block n h);
  sealed = λ n h. l.sealed n (k.sealed n h);
  numbers = λ n h. l.numbers n (k.numbers n h);
}

pub all_keep : (a b : Book) (bs : List Book) → Keeps a b → AllOf (λ x. Keeps x a) bs → AllOf (λ x. Keeps x b) bs
all_keep a b [] k all = tt
all_keep a b (x ∷ xs) k (h, all) = (keeps_then x a b h k, all_keep a b xs k all)

module _ (book : Book) (number : ℕ) (rows : List Row) where
  pub straggler_more : (n : ℕ) → IsIn n (all_parts book) → IsIn n (all_parts (with_straggler number rows book))
  straggler_more n h =
      ⊎_elim
      (λ x. in_front n (settled_parts book) (placed (loose_part number rows) book.stragglers) x)
      (λ y. in_back n (settled_parts book) (placed (loose_part number rows) book.stragglers) (placed_old n (loose_part number rows) book.stragglers y))
      (in_either n (settled_parts book) book.stragglers h)

  pub straggler_new : IsIn number (all_parts (with_straggler number rows book))
  straggler_new = in_back number (settled_parts book) (placed (loose_part number rows) book.stragglers) (placed_new number (loose_part number rows) book.stragglers (omega arith, omega arith))

  pub straggler_less : (n : ℕ) → IsIn n (all_parts (with_straggler number rows book)) → IsIn n (all_parts book) ⊎ (n ≡ number)
  straggler_less n h =
      ⊎_elim
      (λ x. inl (in_front n (settled_parts book) book.stragglers x))
      (λ y. ⊎_elim (λ t. let a = t.0 in let c = t.1 in inr (omega arith)) (λ z. inl (in_back n (settled_parts book) book.stragglers z)) (placed_less n (loose_part number rows) book.stragglers y))
      (in_either n (settled_parts book) (placed (loose_part number rows) book.stragglers) h)

  pub straggler_sealed : (n : ℕ) → IsInSealed n (all_parts (with_straggler number rows book)) → IsInSealed n (all_parts book)
  straggler_sealed n h =
      ⊎_elim
      (λ x. sealed_front n (settled_parts book) book.stragglers x)
      (λ y. sealed_back n (settled_parts book) book.stragglers (placed_sealed n (loose_part number rows) book.stragglers (λ z. false_true z.0) y))
      (sealed_either n (settled_parts book) (placed (loose_part number rows) book.stragglers) h)
    where
      false_true : false ≡ true → ⊥
      false_true e = cc

  pub straggler_keeps : Keeps book (with_straggler number rows book)
  straggler_keeps = record {
    closed = λ block lo hi h. record { parts = h.parts; here = h.here; begins = h.begins; ends = h.ends };
    blocks = λ block n h. record { parts = h.parts; here = h.here; holds = h.holds };
    sealed = λ n h. h;
    numbers = straggler_more;
  }

pub grows_same : (history : History) → Grows history history
grows_same history = record { more = []; joined = sym (append-nil history) }

pub grows_then : (a b c : History) → Grows a b → Grows b c → Grows a c
grows_then a b c f g = record { more = f.more ++ g.more; joined = g.joined ∙ (ap (λ l. l ++ g.more) f.joined ∙ append_assoc a f.more g.more) }

batches_split : (parts : List PartMeaning) (first a b : ℕ) → batches_from parts first (a + b) ≡ batches_from parts first a ++ batches_from parts (first + a) b
batches_split parts first zero b = let x : zero + b ≡ b = omega arith in let y : first + zero ≡ first = omega arith in ap (batches_from parts first) x ∙ sym (ap (λ z. batches_from parts z b) y)
batches_split parts first (suc a) b = let x : suc a + b ≡ suc (a + b) = omega arith in let y : first + suc a ≡ (first + 1) + a = omega arith in
    ap (batches_from parts first) x ∙ (ap (λ l. batch_at parts first ∷ l) (batches_split parts (first + 1) a b) ∙ sym (ap (λ z. (batch_at parts first ∷ batches_from parts (first + 1) a) ++ batches_from parts z b) y))

-- the history up to a greater mark begins with that up to a less one
pub hist_grows : (book : Book) (m n : ℕ) → m ≤ n → Grows (hist book m) (hist book n)
hist_grows book m n le = let e : n ≡ m + (n - m) = omega arith in record { more = batches_from (all_parts book) (1 + m) (n - m); joined = ap (batches_from (all_parts book) 1) e ∙ batches_split (all_parts book) 1 m (n - m) }

nth_batch : (parts : List PartMeaning) (first count k : ℕ) → k < count → get_elem? (batches_from parts first count) k ≡ some (batch_at parts (first + k))
nth_batch parts first zero k h = absurd (omega arith)
nth_batch parts first (suc count) zero h = let e : first ≡ first + zero = omega arith in ap (λ z. some (batch_at parts z)) e
nth_batch parts first (suc count) (suc k) h = let e : (first + 1) + k ≡ first + suc k = omega arith in nth_batch parts (first + 1) count k (omega arith) ∙ ap (λ z. some (batch_at parts z)) e

-- the same histories have the same batches
pub batch_same : (old new : Book) (n : ℕ) → 0 < n → hist new n ≡ hist old n → batch_at (all_parts new) n ≡ batch_at (all_parts old) n
batch_same old new n some_number same = let e : 1 + (n - 1) ≡ n = omega arith in let a = nth_batch (all_parts new) 1 n (n - 1) (omega arith) in let b = nth_batch (all_parts old) 1 n (n - 1) (omega arith) in
    subst (λ z. batch_at (all_parts new) z ≡ batch_at (all_parts old) z) e (some-injective (batch_at (all_parts new) (1 + (n - 1))) (batch_at (all_parts old) (1 + (n - 1))) (sym a ∙ (ap (λ l. get_elem? l (n - 1)) same ∙ b)))
