-- The rows and the range of parts, and of both halves of them.
use Rattle.std.specs.Prelude.{◌≡◌, ℕ, zero, suc, ◌+◌, ◌<◌, ◌^◌, List, [], ◌∷◌, ◌++◌, length, take, drop, map, IsPermutation}
use Rattle.std.proofs.Common.{arith, ap, sym, ◌∙◌, subst, get_or}
use Rattle.std.proofs.lemmas.List.{map-append, append-nil}
use Rattle.std.proofs.lemmas.Grind.{flat_map-append}
use Rattle.std.proofs.lemmas.List.Concat.{flat_map-cons}
use Rattle.std.proofs.lemmas.List.Sorted.{IsPermutation-refl, IsPermutation-trans, IsPermutation-append}
use Rattle.fd_kinds.specs.declared.row.Numbered.{Numbered}
use Rattle.fd_kinds.specs.Parts.{PartMeaning}
use Rattle.fd_shelf.specs.Books.{Each, rows_in}
use Rattle.fd_shelf.specs.Steps.{lowest, highest, last_hi}
use Rattle.fd_shelf.specs.Runs.{IsNumbered}

-- the first number is that of the first part
pub first_is : {I : Type 0} (f : I → PartMeaning) (parts : List I) (i : I) → 0 < length parts → i ≡ get_or parts 0 i → (f i).lo ≡ lowest (map f parts)
first_is f [] i some there = absurd (omega (arith, some))
first_is f (x ∷ xs) i some there = ap (λ y. (f y).lo) there

last_from : {I : Type 0} (f : I → PartMeaning) (hi : ℕ) (parts : List I) (at : ℕ) (i : I) → at + 1 ≡ length parts → i ≡ get_or parts at i → (f i).hi ≡ last_hi hi (map f parts)
last_from f hi [] at i end there = absurd (omega (arith, end))
last_from f hi (x ∷ []) zero i end there = ap (λ y. (f y).hi) there
last_from f hi (x ∷ []) (suc at) i end there = absurd (omega (arith, end))
last_from f hi (x ∷ y ∷ ys) zero i end there = absurd (omega (arith, end))
last_from f hi (x ∷ y ∷ ys) (suc at) i end there = last_from f (f x).hi (y ∷ ys) at i (omega (arith, end)) there

-- the last number is that of the last part
pub last_is : {I : Type 0} (f : I → PartMeaning) (parts : List I) (at : ℕ) (i : I) → at + 1 ≡ length parts → i ≡ get_or parts at i → (f i).hi ≡ highest (map f parts)
last_is f parts at i end there = last_from f 0 parts at i end there

-- the rows of one part
pub rows_of_one : {I : Type 0} (f : I → PartMeaning) (parts : List I) (i : I) (table : List Numbered) → length parts ≡ 1 → i ≡ get_or parts 0 i → table ≡ (f i).rows
    → IsPermutation (rows_in (map f parts)) table
rows_of_one f [] i table one there is = absurd (omega (arith, one))
rows_of_one f (x ∷ []) i table one there is =
    subst (IsPermutation (rows_in (f x ∷ []))) (flat_map-cons (λ (p : PartMeaning). p.rows) (f x) [] ∙ append-nil (f x).rows ∙ ap (λ y. (f y).rows) (sym there) ∙ sym is)
    (IsPermutation-refl (rows_in (f x ∷ [])))
rows_of_one f (x ∷ y ∷ ys) i table one there is = absurd (omega (arith, one))

-- the rows of both halves, merged
pub rows_of_both : {I : Type 0} (f : I → PartMeaning) (parts left right : List I) (xs ys zs : List Numbered) → parts ≡ left ++ right
    → IsPermutation (rows_in (map f left)) xs → IsPermutation (rows_in (map f right)) ys → IsPermutation (xs ++ ys) zs → IsPermutation (rows_in (map f parts)) zs
rows_of_both f parts left right xs ys zs whole l r both =
    let same : rows_in (map f parts) ≡ rows_in (map f left) ++ rows_in (map f right) =
    ap (λ ps. rows_in (map f ps)) whole ∙ ap rows_in (map-append f left right) ∙ flat_map-append (λ (p : PartMeaning). p.rows) (map f left) (map f right) in
    subst (λ rows. IsPermutation rows zs) (sym same)
    (IsPermutation-trans (rows_in (map f left) ++ rows_in (map f right)) (xs ++ ys) zs (IsPermutation-append (rows_in (map f left)) xs (rows_in (map f right)) ys l r) both)

pub first_numbered : {I : Type 0} (f : I → PartMeaning) (parts : List I) (i : I) → 0 < length parts → i ≡ get_or parts 0 i → Each IsNumbered (map f parts) → (f i).hi < 2 ^ 63
first_numbered f [] i some there each = absurd (omega (arith, some))
first_numbered f (x ∷ xs) i some there each = subst (λ y. (f y).hi < 2 ^ 63) (sym there) each.0

pub numbered_front : {I : Type 0} (f : I → PartMeaning) (n : ℕ) (parts : List I) → Each IsNumbered (map f parts) → Each IsNumbered (map f (take n parts))
numbered_front f zero parts each = tt
numbered_front f (suc n) [] each = tt
numbered_front f (suc n) (x ∷ xs) each = (each.0, numbered_front f n xs each.1)

pub numbered_back : {I : Type 0} (f : I → PartMeaning) (n : ℕ) (parts : List I) → Each IsNumbered (map f parts) → Each IsNumbered (map f (drop n parts))
numbered_back f zero parts each = each
numbered_back f (suc n) [] each = tt
numbered_back f (suc n) (x ∷ xs) each = numbered_back f n xs each.1
