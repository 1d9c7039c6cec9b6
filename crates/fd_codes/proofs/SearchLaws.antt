-- The place of a text among rising ones.
use Rattle.std.proofs.Common.{◌≡◌, ℕ, zero, suc, ◌+◌, ◌<◌, ◌≤◌, List, [], ◌∷◌, map, length, get_or, refl, sym, ◌∙◌, ap, subst, arith, inl, inr}
use Rattle.std.specs.Prelude.{Contains}
use Rattle.std.specs.declared.cmp.Ordering.{Ordering}
use Rattle.std.specs.declared.cmp.Ordering.TheVariants.{Less, Equal, Greater}
use Rattle.std.specs.Ordering.{ordering_index}
use Rattle.std.specs.Cmp.{tied_itself}
use Rattle.std.specs.Cmp.Lexicographic.{nat_list_cmp_total}
use Rattle.std.specs.FinMap.{slice_cmp-IsAntisymmetric, nat_cmp-IsAntisymmetric}
use Rattle.std.specs.List.Sorted.{IsNonDecreasingBy, IsPartitionPoint}
use Rattle.std.proofs.lemmas.Bool.{cases_lt}
use Rattle.std.proofs.lemmas.List.{length-map, get_or-map}
use Rattle.std.proofs.lemmas.Map.Keys.{Less-from_sorted}
use Rattle.fd_lists.specs.Texts.{text_cmp}
use Rattle.fd_pages.specs.Dictionaries.{AreRising}

pub same_text : (x y : List ℕ) → text_cmp x y ≡ Equal → x ≡ y
same_text = slice_cmp-IsAntisymmetric nat_cmp-IsAntisymmetric

tied : (x y : List ℕ) → x ≡ y → text_cmp x y ≡ Equal
tied x y e = subst (λ z. text_cmp x z ≡ Equal) e (tied_itself nat_list_cmp_total x)

got_same : {X : Type 0} (xs : List X) (i : ℕ) (d e : X) → i < length xs → get_or xs i d ≡ get_or xs i e
got_same [] i d e h = absurd (omega (arith, h))
got_same (x ∷ xs) zero d e h = refl
got_same (x ∷ xs) (suc i) d e h = got_same xs i d e (omega (arith, h))

index_below : (o p : Ordering) → (p ≡ Less → o ≡ Less) → (p ≡ Equal → o ≡ Less) → ordering_index o ≤ ordering_index p
index_below o Less a b = rw (a refl) (omega arith)
index_below o Equal a b = rw (b refl) (omega arith)
index_below Less Greater a b = omega arith
index_below Equal Greater a b = omega arith
index_below Greater Greater a b = omega arith

rising : {X : Type 0} (f : X → List ℕ) (xs : List X) (text : List ℕ) → AreRising (map f xs) → IsNonDecreasingBy (λ y. ordering_index (text_cmp (f y) text)) xs
rising f xs text s i j d h inside =
    elim (cases_lt i j) [
      | inl l ↦
          let within : j < length (map f xs) = omega (arith, inside, length-map xs f) in
          let one = get_or-map f xs i d [] (omega (arith, l, inside)) in
          let two = get_or-map f xs j d [] inside in
          let far : text_cmp (get_or (map f xs) i []) (get_or (map f xs) j []) ≡ Less = Less-from_sorted text_cmp (map f xs) i j [] s l within in
          let less : text_cmp (f (get_or xs i d)) (f (get_or xs j d)) ≡ Less = subst (λ t. text_cmp t (f (get_or xs j d)) ≡ Less) one (subst (λ t. text_cmp (get_or (map f xs) i []) t ≡ Less) two far) in
          index_below (text_cmp (f (get_or xs i d)) text) (text_cmp (f (get_or xs j d)) text)
          (λ m. nat_list_cmp_total.trans (f (get_or xs i d)) (f (get_or xs j d)) text less m)
          (λ e. ap (text_cmp (f (get_or xs i d))) (sym (same_text (f (get_or xs j d)) text e)) ∙ less)
      | inr m ↦
          let same : i ≡ j = omega (arith, m, h) in
          rw same (omega arith)
    ]

pub missed : {X : Type 0} (f : X → List ℕ) (xs : List X) (d : X) (text : List ℕ) (i : ℕ) → AreRising (map f xs) → Contains (map f xs) text
    → (IsNonDecreasingBy (λ y. ordering_index (text_cmp (f y) text)) xs → IsPartitionPoint (λ y. text_cmp (f y) text ≡ Less) (λ y. text_cmp (f y) text ≡ Greater) xs i) → ⊥
missed f xs d text i s c splits =
    let parts = splits (rising f xs text s) in
    let within : c.0 < length xs = omega (arith, c.1, length-map xs f) in
    let here : f (get_or xs c.0 d) ≡ text = sym (get_or-map f xs c.0 d text within) ∙ c.2 in
    let same : text_cmp (f (get_or xs c.0 d)) text ≡ Equal = tied (f (get_or xs c.0 d)) text here in
    elim (cases_lt c.0 i) [
      | inl l ↦ let less : text_cmp (f (get_or xs c.0 d)) text ≡ Less = parts.0 c.0 d (omega arith) l in absurd cc
      | inr m ↦ let more : text_cmp (f (get_or xs c.0 d)) text ≡ Greater = parts.1 c.0 d m within in absurd cc
    ]

pub found : {X : Type 0} (f : X → List ℕ) (xs : List X) (d : X) (text : List ℕ) (i : ℕ) → i < length xs → text_cmp (f (get_or xs i d)) text ≡ Equal → (e : List ℕ) → get_or (map f xs) i e ≡ text
found f xs d text i within tie e = get_or-map f xs i d e within ∙ same_text (f (get_or xs i d)) text tie
