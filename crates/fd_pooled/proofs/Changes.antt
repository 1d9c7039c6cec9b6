-- What a later book says of a run that was listed from an earlier one.
use Rattle.std.proofs.Common.{◌≡◌, ◌≢◌, ◌⊎◌, ℕ, zero, suc, ◌+◌, ◌-◌, ◌<◌, ◌≤◌, Bool, true, false, if◌then◌else◌, List, [], ◌∷◌, ◌++◌, length, flat_map, sym, refl, ap, ◌∙◌, subst, ⊎_elim, inl, inr, arith, Option, Some, None, slice_get, true≢false}
use Rattle.std.proofs.lemmas.Bool.{cases_lt}
use Rattle.std.proofs.lemmas.Option.{slice_get_within}
use Rattle.fd_kinds.specs.Parts.{PartMeaning}
use Rattle.fd_shelf.specs.Books.{Any, Book, Each, Follows, IsLoose, IsSealed, SealedFirst, blocks_of, settled_parts}
use Rattle.fd_shelf.specs.Marks.{IsBook}
use Rattle.fd_shelf.specs.Numbers.{Holds, HoldsSealed, IsAt, IsIn, IsInSealed, Keeps, StandsIn, first_unsealed}
use Rattle.fd_shelf.specs.Replacement.{HoldsLoose, IsChanged, IsInLoose, IsLeast}
use Rattle.fd_shelf.specs.Steps.{highest, lowest}

if_true : {A : Type 0} (b : Bool) (x y : A) → b ≡ true → (if b then x else y) ≡ x
if_true b x y e = rw e refl

if_false : {A : Type 0} (b : Bool) (x y : A) → b ≡ false → (if b then x else y) ≡ y
if_false b x y e = rw e refl

by_seal : {A : Type 0} (p : PartMeaning) (b : Bool) → p.sealed ≡ b → (IsSealed p → A) → (IsLoose p → A) → A
by_seal p true is sealed loose = sealed is
by_seal p false is sealed loose = loose is

each_back : {A : Type 0} (K : A → Type 0) (xs ys : List A) → Each K (xs ++ ys) → Each K ys
each_back K [] ys all = all
each_back K (x ∷ xs) ys all = each_back K xs ys all.1

each_front : {A : Type 0} (K : A → Type 0) (xs ys : List A) → Each K (xs ++ ys) → Each K xs
each_front K [] ys all = tt
each_front K (x ∷ xs) ys all = (all.0, each_front K xs ys all.1)

module _ {A : Type 0} (K : A → Type 0) where
  any_front : (xs ys : List A) → Any K xs → Any K (xs ++ ys)
  any_front [] ys h = absurd h
  any_front (x ∷ xs) ys (inl h) = inl h
  any_front (x ∷ xs) ys (inr h) = inr (any_front xs ys h)

  any_back : (xs ys : List A) → Any K ys → Any K (xs ++ ys)
  any_back [] ys h = h
  any_back (x ∷ xs) ys h = inr (any_back xs ys h)

  any_either : (xs ys : List A) → Any K (xs ++ ys) → Any K xs ⊎ Any K ys
  any_either [] ys h = inr h
  any_either (x ∷ xs) ys (inl h) = inl (inl h)
  any_either (x ∷ xs) ys (inr h) = ⊎_elim (λ a. inl (inr a)) (λ b. inr b) (any_either xs ys h)

-- the parts in front of others are below them
record Behind (first mark : ℕ) (xs ys : List PartMeaning) : Type 0 where
  begins : ℕ
  high : first ≤ begins
  follows : Follows begins ys mark
  below : (n : ℕ) → IsIn n xs → n < begins

behind : (first mark : ℕ) (xs ys : List PartMeaning) → Follows first (xs ++ ys) mark → Behind first mark xs ys
behind first mark [] ys follows = record { begins = first; high = omega arith; follows = follows; below = λ n h. absurd h }
behind first mark (x ∷ xs) ys follows = let f = behind (x.hi + 1) mark xs ys follows.2 in let high = f.high in record {
  begins = f.begins;
  high = omega (arith, follows.0, follows.1, high);
  follows = f.follows;
  below = λ n h. ⊎_elim (λ (k : Holds n x). omega (arith, k.1, high)) (λ k. f.below n k) h;
}

-- parts in order up to a mark, of which no sealed one stands behind a loose one
module _ (mark : ℕ) where
  in_from : (first n : ℕ) (ps : List PartMeaning) → Follows first ps mark → IsIn n ps → (first ≤ n) × (n ≤ mark)
  in_from first n [] follows h = absurd h
  in_from first n (p ∷ ps) follows (inl h) = let e = ends (p.hi + 1) ps follows.2 in (omega (arith, follows.0, h.0), omega (arith, h.1, e))
    where
      ends : (f : ℕ) (qs : List PartMeaning) → Follows f qs mark → f ≤ mark + 1
      ends f [] follows = omega (arith, follows)
      ends f (q ∷ qs) follows = let e = ends (q.hi + 1) qs follows.2 in omega (arith, follows.0, follows.1, e)
  in_from first n (p ∷ ps) follows (inr h) = let r = in_from (p.hi + 1) n ps follows.2 h in (omega (arith, follows.0, follows.1, r.0), r.1)

  from_in : (first n : ℕ) (ps : List PartMeaning) → Follows first ps mark → first ≤ n → n ≤ mark → IsIn n ps
  from_in first n [] follows low high = absurd (omega (arith, follows, low, high))
  from_in first n (p ∷ ps) follows low high = ⊎_elim (λ (over : p.hi < n). inr (from_in (p.hi + 1) n ps follows.2 (omega (arith, over)) high)) (λ (here : n ≤ p.hi). inl (omega (arith, follows.0, low), here)) (cases_lt p.hi n)

  first_from : (first : ℕ) (ps : List PartMeaning) → Follows first ps mark → first ≤ first_unsealed (mark + 1) ps
  first_from first [] follows = omega (arith, follows)
  first_from first (p ∷ ps) follows = by_seal p p.sealed refl
      (λ sealed. let e = if_true p.sealed (first_unsealed (mark + 1) ps) p.lo sealed in let r = first_from (p.hi + 1) ps follows.2 in omega (arith, follows.0, follows.1, e, r))
      (λ loose. let e = if_false p.sealed (first_unsealed (mark + 1) ps) p.lo loose in omega (arith, follows.0, e))

  none_sealed : (n : ℕ) (ps : List PartMeaning) → Each IsLoose ps → IsInSealed n ps → ⊥
  none_sealed n [] loose h = h
  none_sealed n (p ∷ ps) loose (inl h) = true≢false (sym h.0 ∙ loose.0)
  none_sealed n (p ∷ ps) loose (inr h) = none_sealed n ps loose.1 h

  sealed_in : (n : ℕ) (ps : List PartMeaning) → IsInSealed n ps → IsIn n ps
  sealed_in n [] h = h
  sealed_in n (p ∷ ps) (inl h) = inl h.1
  sealed_in n (p ∷ ps) (inr h) = inr (sealed_in n ps h)

  sealed_below : (first n : ℕ) (ps : List PartMeaning) → Follows first ps mark → SealedFirst ps → IsInSealed n ps → n < first_unsealed (mark + 1) ps
  sealed_below first n [] follows order h = absurd h
  sealed_below first n (p ∷ ps) follows order h = by_seal p p.sealed refl
      (λ sealed. let e = if_true p.sealed (first_unsealed (mark + 1) ps) p.lo sealed in let r = first_from (p.hi + 1) ps follows.2 in
      ⊎_elim (λ (k : HoldsSealed n p). omega (arith, e, r, k.1.1)) (λ (k : IsInSealed n ps). let under = sealed_below (p.hi + 1) n ps follows.2 order.1 k in omega (arith, e, under)) h)
      (λ loose. absurd (none_sealed n (p ∷ ps) (loose, order.0 loose) h))

  below_sealed : (first n : ℕ) (ps : List PartMeaning) → Follows first ps mark → IsIn n ps → n < first_unsealed (mark + 1) ps → IsInSealed n ps
  below_sealed first n [] follows h under = absurd h
  below_sealed first n (p ∷ ps) follows h under = by_seal p p.sealed refl
      (λ sealed. let e = if_true p.sealed (first_unsealed (mark + 1) ps) p.lo sealed in
      ⊎_elim (λ (k : Holds n p). inl (sealed, k)) (λ (k : IsIn n ps). inr (below_sealed (p.hi + 1) n ps follows.2 k (omega (arith, e, under)))) h)
      (λ loose. let e = if_false p.sealed (first_unsealed (mark + 1) ps) p.lo loose in let low = in_from first n (p ∷ ps) follows h in absurd (omega (arith, e, under, low.0, follows.0)))

  loose_above : (first n : ℕ) (ps : List PartMeaning) → Follows first ps mark → SealedFirst ps → IsInLoose n ps → first_unsealed (mark + 1) ps ≤ n
  loose_above first n [] follows order h = absurd h
  loose_above first n (p ∷ ps) follows order h = by_seal p p.sealed refl
      (λ sealed. let e = if_true p.sealed (first_unsealed (mark + 1) ps) p.lo sealed in
      ⊎_elim (λ (k : HoldsLoose n p). absurd (true≢false (sym sealed ∙ k.0))) (λ (k : IsInLoose n ps). let over = loose_above (p.hi + 1) n ps follows.2 order.1 k in omega (arith, e, over)) h)
      (λ loose. let e = if_false p.sealed (first_unsealed (mark + 1) ps) p.lo loose in let low = in_from first n (p ∷ ps) follows (loose_in n (p ∷ ps) h) in omega (arith, e, low.0, follows.0))
    where
      loose_in : (n : ℕ) (ps : List PartMeaning) → IsInLoose n ps → IsIn n ps
      loose_in n [] h = h
      loose_in n (p ∷ ps) (inl h) = inl (h.1, h.2)
      loose_in n (p ∷ ps) (inr h) = inr (loose_in n ps h)

  above_loose : (first n : ℕ) (ps : List PartMeaning) → Follows first ps mark → SealedFirst ps → IsIn n ps → first_unsealed (mark + 1) ps ≤ n → IsInLoose n ps
  above_loose first n [] follows order h over = absurd h
  above_loose first n (p ∷ ps) follows order h over = by_seal p p.sealed refl
      (λ sealed. let e = if_true p.sealed (first_unsealed (mark + 1) ps) p.lo sealed in let r = first_from (p.hi + 1) ps follows.2 in
      ⊎_elim (λ (k : Holds n p). absurd (omega (arith, e, r, over, k.1))) (λ (k : IsIn n ps). inr (above_loose (p.hi + 1) n ps follows.2 order.1 k (omega (arith, e, over)))) h)
      (λ loose. all_loose n (p ∷ ps) (loose, order.0 loose) h)
    where
      all_loose : (n : ℕ) (ps : List PartMeaning) → Each IsLoose ps → IsIn n ps → IsInLoose n ps
      all_loose n [] loose h = h
      all_loose n (p ∷ ps) loose (inl h) = inl (loose.0, h.0, h.1)
      all_loose n (p ∷ ps) loose (inr h) = inr (all_loose n ps loose.1 h)

get_last : {A : Type 0} (xs : List A) (y : A) → slice_get (xs ++ y ∷ []) (length xs) ≡ Some y
get_last [] y = refl
get_last (x ∷ xs) y = get_last xs y

get_front : {A : Type 0} (xs ys : List A) (k : ℕ) → k < length xs → slice_get (xs ++ ys) k ≡ slice_get xs k
get_front [] ys k inside = absurd (omega (arith, inside))
get_front (x ∷ xs) ys zero inside = refl
get_front (x ∷ xs) ys (suc k) inside = get_front xs ys k (omega (arith, inside))

abbrev value_of : {A : Type 0} → A → Option A → A
value_of other None = other
value_of other (Some x) = x

same_value : {A : Type 0} (o : Option A) (x y : A) → o ≡ Some x → o ≡ Some y → x ≡ y
same_value o x y a b = ap (value_of x) (sym a ∙ b)

-- the block of a number in closed blocks
at_block : (n : ℕ) (blocks : List (List PartMeaning)) → IsIn n (flat_map (λ (block : List PartMeaning). block) blocks) → (k : ℕ) × IsAt blocks k n
at_block n [] h = absurd h
at_block n (b ∷ bs) h = ⊎_elim (λ (x : IsIn n b). (0, record { parts = b; here = refl; holds = x })) (λ x. let r = at_block n bs x in (suc r.0, record { parts = r.1.parts; here = r.1.here; holds = r.1.holds }))
    (any_either (Holds n) b (flat_map (λ (block : List PartMeaning). block) bs) h)

block_at : (n k : ℕ) (blocks : List (List PartMeaning)) (parts : List PartMeaning) → slice_get blocks k ≡ Some parts → IsIn n parts → IsIn n (flat_map (λ (block : List PartMeaning). block) blocks)
block_at n k [] parts e h = let r = slice_get_within [] k parts e in absurd (omega (arith, r))
block_at n zero (b ∷ bs) parts e h = any_front (Holds n) b (flat_map (λ (block : List PartMeaning). block) bs) (subst (IsIn n) (same_value (Some b) parts b e refl) h)
block_at n (suc k) (b ∷ bs) parts e h = any_back (Holds n) b (flat_map (λ (block : List PartMeaning). block) bs) (block_at n k bs parts e h)

abbrev flat : Book → List PartMeaning
flat book = flat_map (λ (block : List PartMeaning). block) book.closed

-- the active block of a book in order
record Active (book : Book) (mark : ℕ) : Type 0 where
  begins : ℕ
  counted : 0 < begins
  follows : Follows begins book.active mark
  below : (n : ℕ) → IsIn n (flat book) → n < begins
  order : SealedFirst book.active
  all : Follows 1 (settled_parts book) mark

active : (book : Book) (mark : ℕ) → IsBook book mark → Active book mark
active book mark is = let w = is.well_formed in
    let follows : Follows 1 (settled_parts book) mark = subst (λ (m : ℕ). Follows 1 (settled_parts book) m) (sym is.ends) w.settled in let f = behind 1 mark (flat book) book.active follows in let high = f.high in
    record { begins = f.begins; counted = omega (arith, high); follows = f.follows; below = f.below; order = (each_back SealedFirst book.closed (book.active ∷ []) w.sealed_first).0; all = follows }

module _ (old new : Book) (m m' : ℕ) (is : IsBook old m) (is' : IsBook new m') (keeps : Keeps old new) (same : length new.closed ≡ length old.closed) where
  -- a number of the active block still stands there
  stays : (n : ℕ) → IsIn n old.active → IsIn n new.active
  stays n h = let here : StandsIn old (length old.closed) n = record { parts = old.active; here = get_last old.closed old.active; holds = h } in let now = keeps.blocks (length old.closed) n here in
      subst (IsIn n) (same_value (slice_get (blocks_of new) (length old.closed)) now.parts new.active now.here (subst (λ (k : ℕ). slice_get (blocks_of new) k ≡ Some new.active) same (get_last new.closed new.active))) now.holds

  -- a number of a closed block is below the active one
  closed_below : (n : ℕ) → IsIn n (flat old) → n < (active new m' is').begins
  closed_below n h = let r = at_block n old.closed h in let inside = slice_get_within old.closed r.0 r.1.parts r.1.here in
      let now = keeps.blocks r.0 n record { parts = r.1.parts; here = get_front old.closed (old.active ∷ []) r.0 inside ∙ r.1.here; holds = r.1.holds } in
      (active new m' is').below n (block_at n r.0 new.closed now.parts (sym (get_front new.closed (new.active ∷ []) r.0 (omega (arith, inside, same))) ∙ now.here) now.holds)

  module _ (l : ℕ) (under : l ≤ m) (some : first_unsealed (m + 1) old.active ≤ l) where
    abbrev u : ℕ
    u = first_unsealed (m + 1) old.active

    -- no number below the run is in a loose part
    none_below : (n : ℕ) → n < u → IsInLoose n new.active → ⊥
    none_below n below h = let a = active old m is in let b = active new m' is' in let over = loose_above m' b.begins n new.active b.follows b.order h in
        let there = in_from m' b.begins n new.active b.follows (loose_is_in n new.active h) in let counted = b.counted in
        ⊎_elim (λ (x : IsIn n (flat old)). let low = closed_below n x in omega (arith, low, there.0))
        (λ (x : IsIn n old.active). let sealed = keeps.sealed n (any_back (HoldsSealed n) (flat old) old.active (below_sealed m a.begins n old.active a.follows x below)) in
        ⊎_elim (λ (y : IsInSealed n (flat new)). let low = b.below n (sealed_in m' n (flat new) y) in omega (arith, low, there.0))
        (λ (y : IsInSealed n new.active). let low = sealed_below m' b.begins n new.active b.follows b.order y in omega (arith, low, over))
        (any_either (HoldsSealed n) (flat new) new.active sealed))
        (any_either (Holds n) (flat old) old.active (from_in m 1 n (settled_parts old) a.all (omega (arith, counted, there.0)) (omega (arith, below, some, under))))
      where
        loose_is_in : (n : ℕ) (ps : List PartMeaning) → IsInLoose n ps → IsIn n ps
        loose_is_in n [] h = h
        loose_is_in n (p ∷ ps) (inl h) = inl (h.1, h.2)
        loose_is_in n (p ∷ ps) (inr h) = inr (loose_is_in n ps h)

    in_run : (n : ℕ) → u ≤ n → n ≤ l → IsIn n new.active
    in_run n low high = let a = active old m is in let from = first_from m a.begins old.active a.follows in stays n (from_in m a.begins n old.active a.follows (omega (arith, low, from)) (omega (arith, high, under)))

    -- what stands against the run is its first number, which is sealed
    pub changed : (at : ℕ) → IsLeast (IsChanged u l new.active) at → (at ≡ u) × (u < first_unsealed (m' + 1) new.active)
    changed at least = ⊎_elim
        (λ (x : (at < u) × IsInLoose at new.active). absurd (none_below at x.0 x.1))
        (λ (x : (u ≤ at) × (at ≤ l) × (IsInLoose at new.active → ⊥)). let b = active new m' is' in
        let not : first_unsealed (m' + 1) new.active ≤ u → ⊥ = λ low. x.2 (above_loose m' b.begins at new.active b.follows b.order (in_run at x.0 x.1) (omega (arith, low, x.0))) in
        let later : u < first_unsealed (m' + 1) new.active = ⊎_elim (λ (y : u < first_unsealed (m' + 1) new.active). y) (λ (y : first_unsealed (m' + 1) new.active ≤ u). absurd (not y)) (cases_lt u (first_unsealed (m' + 1) new.active)) in
        let here : IsChanged u l new.active u = inr (omega arith, some, λ h. let over = loose_above m' b.begins u new.active b.follows b.order h in omega (arith, over, later)) in
        let first : at ≤ u = ⊎_elim (λ (y : u < at). absurd (least.below u y here)) (λ (y : at ≤ u). y) (cases_lt u at) in
        (omega (arith, first, x.0), later))
        least.here

-- blocks are only added
pub more_blocks : (old new : Book) → Keeps old new → length old.closed ≤ length new.closed
more_blocks old new keeps = ⊎_elim
    (λ (fewer : length new.closed < length old.closed). let r = there old.closed (length new.closed) fewer in let now = keeps.closed (length new.closed) (lowest r.0) (highest r.0) record { parts = r.0; here = r.1; begins = refl; ends = refl } in
    let inside = slice_get_within new.closed (length new.closed) now.parts now.here in absurd (omega (arith, inside)))
    (λ (more : length old.closed ≤ length new.closed). more)
    (cases_lt (length new.closed) (length old.closed))
  where
    there : {A : Type 0} (xs : List A) (k : ℕ) → k < length xs → (x : A) × (slice_get xs k ≡ Some x)
    there [] k inside = absurd (omega (arith, inside))
    there (x ∷ xs) zero inside = (x, refl)
    there (x ∷ xs) (suc k) inside = there xs k (omega (arith, inside))
