-- A text cut at its first `:` or `{`.
use Rattle.std.proofs.Common.{ℕ, suc, ◌≡◌, ◌≢◌, ◌<◌, Bool, true, false, cond, eqb, List, [], ◌∷◌, ◌++◌, length, get_or, Option, Some, None, refl, sym, ap, ◌∙◌, arith, codes, MatchOption}
use Rattle.std.specs.Borrow.{Bor}
use Rattle.std.proofs.lemmas.Bool.Decides.{nat_tests}
use Rattle.std.proofs.lemmas.Str.Pattern.{IsSplitOnceResult, split_parts}
use Rattle.fd_select.specs.SelectorTexts.{type_part, braces_part, onto_first, parts_of}
use Rattle.fd_select.specs.Outcomes.{OpensAt}

-- no byte of the list is c
abbrev Lacks : ℕ → List ℕ → Type 0
Lacks c xs = (i : ℕ) → i < length xs → get_or xs i 0 ≢ c

first_is_other : (c b : ℕ) (bs : List ℕ) → Lacks c (b ∷ bs) → eqb b c ≡ false
first_is_other c b bs h = let other : b ≢ c = h 0 (omega arith) in grind (arith, nat_tests)

lacks_behind : (c b : ℕ) (bs : List ℕ) → Lacks c (b ∷ bs) → Lacks c bs
lacks_behind c b bs h i l = h (suc i) (omega arith)

one_part : (xs : List ℕ) → Lacks 58 xs → parts_of xs ≡ xs ∷ []
one_part [] h = refl
one_part (b ∷ bs) h = rw (first_is_other 58 b bs h, one_part bs (lacks_behind 58 b bs h)) refl

parts_cut : (xs ys : List ℕ) → Lacks 58 xs → parts_of (xs ++ 58 ∷ ys) ≡ xs ∷ parts_of ys
parts_cut [] ys h = refl
parts_cut (b ∷ bs) ys h = rw (first_is_other 58 b bs h, parts_cut bs ys (lacks_behind 58 b bs h)) refl

type_alone : (xs : List ℕ) → Lacks 123 xs → type_part xs ≡ xs
type_alone [] h = refl
type_alone (b ∷ bs) h = rw (first_is_other 123 b bs h, type_alone bs (lacks_behind 123 b bs h)) refl

pub parts_of_cut : (text : List ℕ) (r : Option (Bor (List ℕ) × Bor (List ℕ))) → IsSplitOnceResult 58 text r → MatchOption r (parts_of text ≡ text ∷ []) (λ cut. parts_of text ≡ cut.0.now ∷ parts_of cut.1.now)
parts_of_cut text None h = one_part text (split_parts 58 text None h (omega arith))
parts_of_cut text (Some cut) h =
    let p = split_parts 58 text (Some cut) h (omega arith) in
    ap parts_of p.0 ∙ parts_cut cut.0.now cut.1.now p.1

pub opens_cut : (text : List ℕ) (r : Option (Bor (List ℕ) × Bor (List ℕ))) → IsSplitOnceResult 123 text r → MatchOption r (type_part text ≡ text) (λ cut. OpensAt text cut.0.now cut.1.now)
opens_cut text None h = type_alone text (split_parts 123 text None h (omega arith))
opens_cut text (Some cut) h =
    let p = split_parts 123 text (Some cut) h (omega arith) in
    record { alone = type_alone cut.0.now p.1; parts = p.0 }

some_part : (xs : List ℕ) → parts_of xs ≡ [] → ⊥
some_part [] h = cc
some_part (b ∷ bs) h = by (eqb b 58) refl
  where
    onto : (ps : List (List ℕ)) → onto_first b ps ≡ [] → ⊥
    onto [] e = cc
    onto (p ∷ ps) e = cc

    by : (t : Bool) → eqb b 58 ≡ t → ⊥
    by true e = let k : parts_of (b ∷ bs) ≡ [] ∷ parts_of bs = rw e refl in cc
    by false e = onto (parts_of bs) (let k : parts_of (b ∷ bs) ≡ onto_first b (parts_of bs) = rw e refl in sym k ∙ h)

-- a text of one part is that part
sole_part : (xs p : List ℕ) → parts_of xs ≡ p ∷ [] → xs ≡ p
sole_part [] p h = cc
sole_part (b ∷ bs) p h = by (λ q k. sole_part bs q k) (eqb b 58) refl
  where
    onto : ((q : List ℕ) → parts_of bs ≡ q ∷ [] → bs ≡ q) → (ps : List (List ℕ)) → parts_of bs ≡ ps → onto_first b ps ≡ p ∷ [] → b ∷ bs ≡ p
    onto sole [] k e = absurd (some_part bs k)
    onto sole (q ∷ []) k e = let same : bs ≡ q = sole q k in cc
    onto sole (q ∷ r ∷ ps) k e = cc

    by : ((q : List ℕ) → parts_of bs ≡ q ∷ [] → bs ≡ q) → (t : Bool) → eqb b 58 ≡ t → b ∷ bs ≡ p
    by sole true e = let k : parts_of (b ∷ bs) ≡ [] ∷ parts_of bs = rw e refl in absurd (some_part bs cc)
    by sole false e = onto sole (parts_of bs) refl (let k : parts_of (b ∷ bs) ≡ onto_first b (parts_of bs) = rw e refl in sym k ∙ h)

-- a last part other than `delta` is none
pub other_last : (text unit last : List ℕ) → parts_of text ≡ unit ∷ parts_of last → last ≢ codes "delta" → (u : List ℕ) (delta : Bool) → parts_of text ≡ u ∷ cond delta (codes "delta" ∷ []) [] → ⊥
other_last text unit last h other u true e = other (sole_part last (codes "delta") cc)
other_last text unit last h other u false e = some_part last cc

-- ---- what stands behind a `{`

alone_parts : (b : ℕ) (bs : List ℕ) → type_part (b ∷ bs) ≡ b ∷ bs → (eqb b 123 ≡ false) × (type_part bs ≡ bs)
alone_parts b bs h = by (eqb b 123) refl
  where
    by : (t : Bool) → eqb b 123 ≡ t → (eqb b 123 ≡ false) × (type_part bs ≡ bs)
    by true e = let k : type_part (b ∷ bs) ≡ [] = rw e refl in absurd cc
    by false e = let k : type_part (b ∷ bs) ≡ b ∷ type_part bs = rw e refl in (e, cc)

pub type_front : (front more : List ℕ) → type_part front ≡ front → type_part (front ++ 123 ∷ more) ≡ front
type_front [] more h = refl
type_front (b ∷ bs) more h = let p = alone_parts b bs h in rw (p.0, type_front bs more p.1) refl

pub braces_front : (front more : List ℕ) → type_part front ≡ front → braces_part (front ++ 123 ∷ more) ≡ 123 ∷ more
braces_front [] more h = refl
braces_front (b ∷ bs) more h = let p = alone_parts b bs h in rw (p.0, braces_front bs more p.1) refl

pub no_braces : (text : List ℕ) → type_part text ≡ text → braces_part text ≡ []
no_braces [] h = refl
no_braces (b ∷ bs) h = let p = alone_parts b bs h in rw (p.0, no_braces bs p.1) refl
