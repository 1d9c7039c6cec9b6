-- How many parts are loose, where these stand behind the others.
use Rattle.std.specs.Prelude.{◌≡◌, ℕ, zero, suc, ◌+◌, ◌-◌, ◌≤◌, ◌<◌, Bool, true, false, if◌then◌else◌, List, [], ◌∷◌, length, take, drop, map, filter, slice_index_or, refl}
use Rattle.std.proofs.Common.{arith, ap, sym, ◌∙◌, true≢false}
use Rattle.std.proofs.lemmas.List.{length-map}
use Rattle.fd_kinds.specs.Parts.{PartMeaning}
use Rattle.fd_shelf.specs.Books.{Each, IsLoose, IsSealed, SealedFirst}
use Rattle.fd_shelf.specs.Steps.{is_loose}

if_true : {A : Type 0} (b : Bool) (x y : A) → b ≡ true → (if b then x else y) ≡ x
if_true b x y e = rw e refl

if_false : {A : Type 0} (b : Bool) (x y : A) → b ≡ false → (if b then x else y) ≡ y
if_false b x y e = rw e refl

loose_at : (j : ℕ) (parts : List PartMeaning) (d : PartMeaning) → Each IsLoose parts → j < length parts → IsLoose (slice_index_or parts j d)
loose_at j [] d loose inside = absurd (omega (arith, inside))
loose_at zero (p ∷ ps) d loose inside = loose.0
loose_at (suc j) (p ∷ ps) d loose inside = loose_at j ps d loose.1 (omega (arith, inside))

by_seal : {A : Type 0} (p : PartMeaning) (b : Bool) → p.sealed ≡ b → (IsSealed p → A) → (IsLoose p → A) → A
by_seal p true is sealed loose = sealed is
by_seal p false is sealed loose = loose is

-- with the last of them, all of a front are sealed
sealed_upto : (j : ℕ) (parts : List PartMeaning) (d : PartMeaning) → SealedFirst parts → j < length parts → IsSealed (slice_index_or parts j d) → Each IsSealed (take (suc j) parts)
sealed_upto j [] d order inside last = absurd (omega (arith, inside))
sealed_upto zero (p ∷ ps) d order inside last = (last, tt)
sealed_upto (suc j) (p ∷ ps) d order inside last =
    by_seal p p.sealed refl
    (λ sealed. (sealed, sealed_upto j ps d order.1 (omega (arith, inside)) last))
    (λ loose. absurd (true≢false (sym last ∙ loose_at j ps d (order.0 loose) (omega (arith, inside)))))

all_loose : (parts : List PartMeaning) → Each IsLoose parts → filter is_loose parts ≡ parts
all_loose [] loose = refl
all_loose (p ∷ ps) loose =
    let here : is_loose p ≡ true = rw loose.0 refl in
    if_true (is_loose p) (p ∷ filter is_loose ps) (filter is_loose ps) here ∙ ap (λ qs. p ∷ qs) (all_loose ps loose.1)

counted_from : (at : ℕ) (parts : List PartMeaning) → at ≤ length parts → Each IsSealed (take at parts) → Each IsLoose (drop at parts) → length (filter is_loose parts) + at ≡ length parts
counted_from zero parts inside sealed loose =
    let all = ap length (all_loose parts loose) in omega (arith, all)
counted_from (suc at) [] inside sealed loose = absurd (omega (arith, inside))
counted_from (suc at) (p ∷ ps) inside sealed loose =
    let here : is_loose p ≡ false = rw sealed.0 refl in
    let none = ap length (if_false (is_loose p) (p ∷ filter is_loose ps) (filter is_loose ps) here) in
    let rest = counted_from at ps (omega (arith, inside)) sealed.1 loose in
    omega (arith, none, rest)

-- the part before the place is sealed
pub counted_behind : {A : Type 0} (f : A → PartMeaning) (xs : List A) (at : ℕ) (x : PartMeaning) → SealedFirst (map f xs) → 0 < at → at ≤ length xs
    → slice_index_or (map f xs) (at - 1) x ≡ x → IsSealed x → Each IsLoose (drop at (map f xs)) → length xs - at ≡ length (filter is_loose (map f xs))
counted_behind f xs at x order some inside here sealed loose =
    let long = length-map xs f in
    let next : suc (at - 1) ≡ at = omega (arith, some) in
    let last : IsSealed (slice_index_or (map f xs) (at - 1) x) = rw here sealed in
    let front : Each IsSealed (take (suc (at - 1)) (map f xs)) = sealed_upto (at - 1) (map f xs) x order (omega (arith, some, inside, long)) last in
    let counted = counted_from at (map f xs) (omega (arith, inside, long)) (rw (sym next) front) loose in
    omega (arith, counted, long)

-- no part is before it
pub counted_all : {A : Type 0} (f : A → PartMeaning) (xs : List A) (at : ℕ) → at ≡ 0 → Each IsLoose (drop at (map f xs)) → length xs - at ≡ length (filter is_loose (map f xs))
counted_all f xs at none =
    rw none
    (λ loose.
    let long = length-map xs f in
    let counted = counted_from 0 (map f xs) (omega arith) tt loose in
    omega (arith, counted, long))
