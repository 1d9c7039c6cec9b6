-- The rows from a place on.
use Rattle.std.proofs.Common.{◌≡◌, ℕ, zero, suc, ◌+◌, ◌<◌, ◌^◌, List, [], ◌∷◌, ◌++◌, length, drop, refl, sym, ◌∙◌, ap, subst, arith}
use Rattle.std.specs.Prelude.{Some, IsSome, All, slice_get}
use Rattle.std.proofs.lemmas.Grind.{common_steps}
use Rattle.std.proofs.lemmas.Option.{same_Some, slice_get_within, get_or_from_slice_get}
use Rattle.std.proofs.lemmas.List.Elements.{All-head, All-get_or}
use Rattle.fd_kinds.specs.declared.row.Numbered.{Numbered}
use Rattle.fd_column.specs.RowNumbers.{IsNumber}
use Rattle.fd_column.specs.Stacks.{AreShort}
use Rattle.fd_merge.specs.Merges.{MovesFirst}

pub first_of_rest : {X : Type 0} (xs : List X) (at : ℕ) → slice_get (drop at xs) 0 ≡ slice_get xs at
first_of_rest [] zero = refl
first_of_rest [] (suc at) = refl
first_of_rest (x ∷ xs) zero = refl
first_of_rest (x ∷ xs) (suc at) = first_of_rest xs at

pub rest_from : {X : Type 0} (xs : List X) (at : ℕ) (x : X) → slice_get xs at ≡ Some x → drop at xs ≡ x ∷ drop (at + 1) xs
rest_from [] zero x h = cc
rest_from [] (suc at) x h = cc
rest_from (y ∷ xs) zero x h = ap (λ z. z ∷ xs) (same_Some y x h)
rest_from (y ∷ xs) (suc at) x h =
    let same : suc (at + 1) ≡ suc at + 1 = omega arith in
    rest_from xs at x h ∙ ap (λ n. x ∷ drop n (y ∷ xs)) same

pub inside_from : {X : Type 0} (xs : List X) (at : ℕ) → 0 < length (drop at xs) → at < length xs
inside_from xs at h = grind (arith, common_steps)

pub some_first : {X : Type 0} (xs : List X) (at : ℕ) → 0 < length (drop at xs) → IsSome (slice_get xs at)
some_first [] zero h = absurd (omega (arith, h))
some_first [] (suc at) h = absurd (omega (arith, h))
some_first (x ∷ xs) zero h = refl
some_first (x ∷ xs) (suc at) h = some_first xs at h

-- the first row moves, and the rows from the next place on are left
pub first_moves : (rows : List Numbered) (at : ℕ) (x : Numbered) (done done' rest' : List Numbered) → slice_get rows at ≡ Some x → done' ≡ done ++ x ∷ [] → rest' ≡ drop (at + 1) rows → MovesFirst done (drop at rows) done' rest'
first_moves rows at x done done' rest' there done_is rest_is = record {
  first = x;
  rest_is = rest_from rows at x there ∙ ap (λ xs. x ∷ xs) (sym rest_is);
  done_is = done_is;
}

pub small_first : (rows : List Numbered) (at : ℕ) (x : Numbered) → slice_get rows at ≡ Some x → All IsNumber (drop at rows) → x.number < 2 ^ 63
small_first rows at x there h = All-head IsNumber x (drop (at + 1) rows) (subst (All IsNumber) (rest_from rows at x there) h)

pub short_first : (rows : List Numbered) (at : ℕ) (x : Numbered) → slice_get rows at ≡ Some x → All (λ row. AreShort row.row.stack) rows → AreShort x.row.stack
short_first rows at x there h =
    subst (λ row. AreShort row.row.stack) (get_or_from_slice_get rows at x x there) (All-get_or (λ row. AreShort row.row.stack) rows at x (slice_get_within rows at x there) h)
