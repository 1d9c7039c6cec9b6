-- The loose parts of an active block up to a limit: how many they are, and where they begin and end.
use Rattle.std.proofs.Common.{◌≡◌, ◌≢◌, ℕ, suc, ◌+◌, ◌-◌, ◌<◌, ◌≤◌, Bool, true, false, if◌then◌else◌, List, [], ◌∷◌, ◌++◌, length, filter, flat_map, sym, refl, ap, ◌∙◌, subst, ⊎_elim, arith}
use Rattle.std.proofs.lemmas.Bool.{cases_lt}
use Rattle.fd_kinds.specs.Parts.{PartMeaning, IsPart}
use Rattle.fd_shelf.specs.Books.{Book, Each, Follows, IsLoose, IsSealed, SealedFirst, settled_parts}
use Rattle.fd_shelf.specs.Marks.{IsBook}
use Rattle.fd_shelf.specs.Numbers.{first_unsealed}
use Rattle.fd_shelf.specs.Steps.{highest, is_level0, last_hi, loose_upto, lowest}

if_true : {A : Type 0} (b : Bool) (x y : A) → b ≡ true → (if b then x else y) ≡ x
if_true b x y e = rw e refl

if_false : {A : Type 0} (b : Bool) (x y : A) → b ≡ false → (if b then x else y) ≡ y
if_false b x y e = rw e refl

level0_sealed : (limit : ℕ) (p : PartMeaning) → IsSealed p → is_level0 limit p ≡ false
level0_sealed limit p sealed = rw sealed refl

level0_upto : (limit : ℕ) (p : PartMeaning) → IsLoose p → p.lo ≤ limit → is_level0 limit p ≡ true
level0_upto limit p loose low = grind (arith, loose, low)

level0_above : (limit : ℕ) (p : PartMeaning) → IsLoose p → limit < p.lo → is_level0 limit p ≡ false
level0_above limit p loose over = grind (arith, loose, over)

by_seal : {A : Type 0} (p : PartMeaning) (b : Bool) → p.sealed ≡ b → (IsSealed p → A) → (IsLoose p → A) → A
by_seal p true is sealed loose = sealed is
by_seal p false is sealed loose = loose is

pub each_back : {A : Type 0} (K : A → Type 0) (xs ys : List A) → Each K (xs ++ ys) → Each K ys
each_back K [] ys all = all
each_back K (x ∷ xs) ys all = each_back K xs ys all.1

each_front : {A : Type 0} (K : A → Type 0) (xs ys : List A) → Each K (xs ++ ys) → Each K xs
each_front K [] ys all = tt
each_front K (x ∷ xs) ys all = (all.0, each_front K xs ys all.1)

-- where the parts behind others begin
behind : (first mark : ℕ) (xs ys : List PartMeaning) → Follows first (xs ++ ys) mark → (f : ℕ) × Follows f ys mark
behind first mark [] ys follows = (first, follows)
behind first mark (x ∷ xs) ys follows = behind (x.hi + 1) mark xs ys follows.2

module _ (l mark : ℕ) (under : l ≤ mark) where
  none_upto : (first : ℕ) (ps : List PartMeaning) → Follows first ps mark → Each IsLoose ps → l < first → filter (is_level0 l) ps ≡ []
  none_upto first [] follows loose over = refl
  none_upto first (p ∷ ps) follows loose over = if_false (is_level0 l p) (p ∷ filter (is_level0 l) ps) (filter (is_level0 l) ps) (level0_above l p loose.0 (omega (arith, follows.0, over)))
      ∙ none_upto (p.hi + 1) ps follows.2 loose.1 (omega (arith, follows.0, follows.1, over))

  kept : (p : PartMeaning) (ps : List PartMeaning) → IsLoose p → p.lo ≤ l → filter (is_level0 l) (p ∷ ps) ≡ p ∷ filter (is_level0 l) ps
  kept p ps loose low = if_true (is_level0 l p) (p ∷ filter (is_level0 l) ps) (filter (is_level0 l) ps) (level0_upto l p loose low)

  -- loose parts up to the limit end with it
  loose_last : (d first : ℕ) (ps : List PartMeaning) → Follows first ps mark → Each IsLoose ps → Each IsPart ps → d + 1 ≡ first → d ≤ l → last_hi d (filter (is_level0 l) ps) ≡ l
  loose_last d first [] follows loose are next low = omega (arith, follows, next, low, under)
  loose_last d first (p ∷ ps) follows loose are next low = ⊎_elim
      (λ (over : l < p.lo). let same : d ≡ l = omega (arith, follows.0, next, low, over) in ap (last_hi d) (none_upto first (p ∷ ps) follows loose (omega (arith, follows.0, over))) ∙ same)
      (λ (here : p.lo ≤ l). let one : p.lo ≡ p.hi = are.0.one_number loose.0 in ap (last_hi d) (kept p ps loose.0 here) ∙ loose_last p.hi (p.hi + 1) ps follows.2 loose.1 are.1 refl (omega (arith, one, here)))
      (cases_lt l p.lo)

  -- there is one for each number up to it
  loose_count : (first : ℕ) (ps : List PartMeaning) → Follows first ps mark → Each IsLoose ps → Each IsPart ps → length (filter (is_level0 l) ps) ≡ (l + 1) - first
  loose_count first [] follows loose are = omega (arith, follows, under)
  loose_count first (p ∷ ps) follows loose are = ⊎_elim
      (λ (over : l < p.lo). let none : 0 ≡ (l + 1) - first = omega (arith, follows.0, over) in ap length (none_upto first (p ∷ ps) follows loose (omega (arith, follows.0, over))) ∙ none)
      (λ (here : p.lo ≤ l). let one : p.lo ≡ p.hi = are.0.one_number loose.0 in let rest = loose_count (p.hi + 1) ps follows.2 loose.1 are.1 in
      let all : suc (length (filter (is_level0 l) ps)) ≡ (l + 1) - first = omega (arith, follows.0, one, here, rest) in ap length (kept p ps loose.0 here) ∙ all)
      (cases_lt l p.lo)

  -- the parts up to the limit, where u is the first number that no sealed part holds
  pub record Picked (picked : List PartMeaning) (u : ℕ) : Type 0 where
    pub count : length picked ≡ (l + 1) - u
    pub first : u ≤ l → lowest picked ≡ u
    pub last : u ≤ l → highest picked ≡ l

  picked : (first : ℕ) (ps : List PartMeaning) → Follows first ps mark → SealedFirst ps → Each IsPart ps → Picked (filter (is_level0 l) ps) (first_unsealed (mark + 1) ps)
  picked first [] follows order are = record { count = omega (arith, under); first = λ low. absurd (omega (arith, low, under)); last = λ low. absurd (omega (arith, low, under)) }
  picked first (p ∷ ps) follows order are = by_seal p p.sealed refl
      (λ sealed. subst (λ (x : List PartMeaning × ℕ). Picked x.0 x.1)
      (λ i. (sym (if_false (is_level0 l p) (p ∷ filter (is_level0 l) ps) (filter (is_level0 l) ps) (level0_sealed l p sealed)) i, sym (if_true p.sealed (first_unsealed (mark + 1) ps) p.lo sealed) i))
      (picked (p.hi + 1) ps follows.2 order.1 are.1))
      (λ loose. subst (λ (u : ℕ). Picked (filter (is_level0 l) (p ∷ ps)) u) (sym (if_false p.sealed (first_unsealed (mark + 1) ps) p.lo loose)) (⊎_elim
      (λ (over : l < p.lo). subst (λ (qs : List PartMeaning). Picked qs p.lo) (sym (none_upto first (p ∷ ps) follows (loose, order.0 loose) (omega (arith, follows.0, over))))
      record { count = omega (arith, over); first = λ low. absurd (omega (arith, low, over)); last = λ low. absurd (omega (arith, low, over)) })
      (λ (here : p.lo ≤ l). let one : p.lo ≡ p.hi = are.0.one_number loose in let rest = loose_count (p.hi + 1) ps follows.2 (order.0 loose) are.1 in
      let all : suc (length (filter (is_level0 l) ps)) ≡ (l + 1) - p.lo = omega (arith, one, here, rest) in
      subst (λ (qs : List PartMeaning). Picked qs p.lo) (sym (kept p ps loose here))
      record { count = all; first = λ low. refl; last = λ low. loose_last p.hi (p.hi + 1) ps follows.2 (order.0 loose) are.1 refl (omega (arith, one, here)) })
      (cases_lt l p.lo)))

  pub picked_of : (book : Book) → IsBook book mark → Picked (loose_upto book l) (first_unsealed (mark + 1) book.active)
  picked_of book order = let w = order.well_formed in let flat = flat_map (λ (block : List PartMeaning). block) book.closed in
      let follows : Follows 1 (settled_parts book) mark = subst (λ (m : ℕ). Follows 1 (settled_parts book) m) (sym order.ends) w.settled in let f = behind 1 mark flat book.active follows in
      picked f.0 book.active f.1 (each_back SealedFirst book.closed (book.active ∷ []) w.sealed_first).0 (each_back IsPart flat book.active (each_front IsPart (settled_parts book) book.stragglers w.parts))

  none_long : (ps : List PartMeaning) → length ps ≡ 0 → ps ≡ []
  none_long [] e = refl
  none_long (p ∷ ps) e = absurd (omega (arith, e))

  -- where there are some, the first number that no sealed part holds is at most the limit
  pub some_upto : (picked : List PartMeaning) (u : ℕ) → Picked picked u → picked ≢ [] → u ≤ l
  some_upto picked u is some = ⊎_elim (λ (over : l < u). let count = is.count in absurd (some (none_long picked (omega (arith, over, count))))) (λ low. low) (cases_lt l u)
