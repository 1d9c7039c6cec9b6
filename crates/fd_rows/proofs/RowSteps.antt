-- Rows that are gathered piece by piece, and their bytes.
use Rattle.std.proofs.Common.{◌≡◌, inl, inr, ℕ, suc, ◌+◌, ◌-◌, ◌^◌, ◌<◌, ◌≤◌, Bool, true, false, not, cond, List, [], ◌∷◌, ◌++◌, length, get_or, drop, drop-cons, append_assoc, refl, sym, ap, ◌∙◌, arith, Some, None}
use Rattle.std.specs.Prelude.{ℤ, pos, ◌⊎◌, sum_by, slice_get}
use Rattle.std.specs.List.{flat_map, zip, list_any}
use Rattle.std.specs.Ordering.{int_eq}
use Rattle.std.proofs.lemmas.List.{drop_all, drop-drop, append-nil}
use Rattle.std.proofs.lemmas.List.Sums.{sum_by-append}
use Rattle.std.proofs.lemmas.Bool.{or_parts}
use Rattle.std.proofs.lemmas.Bool.Decides.{nat_tests}
use Rattle.std.proofs.lemmas.Option.{slice_get_cases, slice_get_within, get_or_from_slice_get}
use Rattle.fd_kinds.specs.declared.row.Row.{Row}
use Rattle.fd_kinds.specs.RowSize.{row_size}
use Rattle.fd_pprof.specs.declared.profile.Profile.{Profile}
use Rattle.fd_pprof.specs.declared.profile.Sample.{Sample}
use Rattle.fd_pprof.specs.declared.profile.ValueType.{ValueType}
use Rattle.fd_rows.specs.declared.limits.TheConstants.{MOST_BODY_ROW_BYTES}
use Rattle.fd_rows.specs.declared.series.Series.{Series}
use Rattle.fd_rows.specs.Rows.{row_of, value_rows, sample_rows}
use Rattle.fd_rows.specs.Sizes.{held, sample_size, type_length, with_rows}
use Rattle.fd_rows.specs.Body.{is_large}

-- rows within the limit are not too large
pub not_large : (rows : List Row) (bytes : ℕ) → bytes ≡ sum_by row_size rows → bytes ≤ MOST_BODY_ROW_BYTES → is_large rows ≡ false
unfolding is_large
not_large rows bytes counted small = grind (arith, nat_tests)

-- more rows than the limit allows, as a counter of 64 bits shows
pub more_large : (rows more : List Row) (bytes size : ℕ) → bytes ≡ sum_by row_size rows → size ≡ with_rows bytes more → MOST_BODY_ROW_BYTES < size → is_large (rows ++ more) ≡ true
unfolding is_large
more_large rows more bytes size counted is above = grind (arith, nat_tests, sum_by-append row_size rows more)

-- the bytes of rows within the limit
pub more_counted : (rows more all : List Row) (bytes size : ℕ) → bytes ≡ sum_by row_size rows → size ≡ with_rows bytes more → size ≤ MOST_BODY_ROW_BYTES → all ≡ rows ++ more → size ≡ sum_by row_size all
more_counted rows more all bytes size counted is small gathered = omega (arith, sum_by-append row_size rows more, ap (sum_by row_size) gathered)

-- one more piece is gathered
pub more_rows : (rows piece rest whole new : List Row) → rows ++ (piece ++ rest) ≡ whole → new ≡ rows ++ piece → new ++ rest ≡ whole
more_rows rows piece rest whole new all one = ap (λ xs. xs ++ rest) one ∙ append_assoc rows piece rest ∙ all

-- the bytes of one more piece
pub more_bytes : (old new : ℕ) (piece rest whole : List Row) → piece ++ rest ≡ whole → new ≡ with_rows old piece → with_rows new rest ≡ with_rows old whole
more_bytes old new piece rest whole all one = omega (arith, sum_by-append row_size piece rest, ap (sum_by row_size) all)

-- a list from a place on begins with what stands there
pub from_place : {A : Type 0} (xs items : List A) (i : ℕ) (x : A) → items ≡ xs → i < length items → x ≡ get_or items i x → drop i xs ≡ x ∷ drop (i + 1) xs
from_place xs items i x same within here =
    let inside : i < length xs = omega (arith, ap length same) in
    let s : suc i ≡ i + 1 = omega arith in
    let there : x ≡ get_or xs i x = here ∙ ap (λ ys. get_or ys i x) same in
    drop-cons xs i x inside ∙ ap (λ k. get_or xs i x ∷ drop k xs) s ∙ ap (λ y. y ∷ drop (i + 1) xs) (sym there)

-- the same of what is read there
pub from_slot : {A : Type 0} (xs : List A) (i : ℕ) (x : A) → slice_get xs i ≡ Some x → drop i xs ≡ x ∷ drop (i + 1) xs
from_slot xs i x h = from_place xs xs i x refl (slice_get_within xs i x h) (sym (get_or_from_slice_get xs i x x h))

-- what stands at a place of a list
pub record Stands {A : Type 0} (xs : List A) (i : ℕ) : Type 0 where
  pub item : A
  pub is : slice_get xs i ≡ Some item

stands_at : {A : Type 0} (xs : List A) (i : ℕ) → i < length xs → ((x : A) × (i < length xs) × (slice_get xs i ≡ Some x) × (get_or xs i x ≡ x)) ⊎ ((length xs ≤ i) × (slice_get xs i ≡ None)) → Stands xs i
stands_at xs i within (inl w) = record { item = w.0; is = w.2 }
stands_at xs i within (inr w) = absurd (omega (arith, within, w.0))

pub stands : {A : Type 0} (xs : List A) (i : ℕ) → i < length xs → Stands xs i
stands xs i within = stands_at xs i within (slice_get_cases xs i).1

zip_none : {A B : Type 0} (xs : List A) → zip {X = B} xs [] ≡ []
zip_none [] = refl
zip_none (x ∷ xs) = refl

-- what a function gives for one place of two lists, and then for the rest
zip_front : {A B : Type 0} (f : A × B → List Row) (x : A) (xs : List A) (ys : List B) → flat_map f (zip (x ∷ xs) ys) ≡ flat_map f (zip (x ∷ []) ys) ++ flat_map f (zip xs (drop 1 ys))
zip_front f x xs [] = sym (ap (flat_map f) (zip_none xs))
zip_front f x xs (y ∷ ys) = sym (ap (λ rows. rows ++ flat_map f (zip xs ys)) (append-nil (f (x, y))))

pub zip_step : {A B : Type 0} (f : A × B → List Row) (xs : List A) (ys : List B) (i : ℕ) (x : A) → slice_get xs i ≡ Some x
    → flat_map f (zip (drop i xs) (drop i ys)) ≡ flat_map f (zip (x ∷ []) (drop i ys)) ++ flat_map f (zip (drop (i + 1) xs) (drop (i + 1) ys))
zip_step f xs ys i x there =
    ap (λ zs. flat_map f (zip zs (drop i ys))) (from_slot xs i x there)
    ∙ zip_front f x (drop (i + 1) xs) (drop i ys)
    ∙ ap (λ zs. flat_map f (zip (x ∷ []) (drop i ys)) ++ flat_map f (zip (drop (i + 1) xs) zs)) (drop-drop 1 i ys)

-- what stands at a place of a list, beside one key
pub one_value : {A B : Type 0} (f : A × B → List Row) (x : A) (ys : List B) (i : ℕ) (y : B) → slice_get ys i ≡ Some y → flat_map f (zip (x ∷ []) (drop i ys)) ≡ f (x, y)
one_value f x ys i y h = ap (λ zs. flat_map f (zip (x ∷ []) zs)) (from_slot ys i y h) ∙ append-nil (f (x, y))

nothing_there : {B : Type 0} (ys : List B) (i : ℕ) → slice_get ys i ≡ None → ((y : B) × (i < length ys) × (slice_get ys i ≡ Some y) × (get_or ys i y ≡ y)) ⊎ ((length ys ≤ i) × (slice_get ys i ≡ None)) → drop i ys ≡ []
nothing_there ys i h (inl w) = let some = w.2 in cc
nothing_there ys i h (inr w) = drop_all i ys w.0

pub no_value : {A B : Type 0} (f : A × B → List Row) (x : A) (ys : List B) (i : ℕ) → slice_get ys i ≡ None → flat_map f (zip (x ∷ []) (drop i ys)) ≡ []
no_value f x ys i h = ap (λ zs. flat_map f (zip (x ∷ []) zs)) (nothing_there ys i h (slice_get_cases ys i).1)

-- nothing is left past the end
pub all_taken : {A B : Type 0} (f : A × B → List Row) (xs : List A) (ys : List B) (i : ℕ) → length xs ≤ i → flat_map f (zip (drop i xs) ys) ≡ []
all_taken f xs ys i past = ap (λ zs. flat_map f (zip zs ys)) (drop_all i xs past)

-- values of 0 give no rows
none_at : (b : Bool) (row : Row) → not b ≡ false → cond b [] (row ∷ []) ≡ []
none_at true row h = refl
none_at false row h = cc

zeros : (series : Series) (profile : Profile) (s : Sample) (types : List ValueType) (values : List ℤ) → list_any (λ v. not (int_eq v (pos 0))) values ≡ false → flat_map (value_rows series profile s) (zip types values) ≡ []
unfolding value_rows
zeros series profile s [] values h = refl
zeros series profile s (t ∷ ts) [] h = refl
zeros series profile s (t ∷ ts) (v ∷ vs) h =
    let parts = or_parts (not (int_eq v (pos 0))) (list_any (λ x. not (int_eq x (pos 0))) vs) h in
    ap (λ rows. rows ++ flat_map (value_rows series profile s) (zip ts vs)) (none_at (int_eq v (pos 0)) (row_of series profile s t v) parts.0) ∙ zeros series profile s ts vs parts.1

pub no_rows : (series : Series) (profile : Profile) (s : Sample) → list_any (λ v. not (int_eq v (pos 0))) s.values ≡ false → sample_rows series profile s ≡ []
unfolding sample_rows
no_rows series profile s h = zeros series profile s profile.sample_types s.values h

-- no rows add no bytes
pub no_bytes : (size : ℕ) → size ≤ 2 ^ 64 - 1 → size ≡ with_rows size []
no_bytes size fits = omega arith

-- the bytes of a row
pub row_bytes_are : (series : Series) (profile : Profile) (s : Sample) (t : ValueType) (v : ℤ) → row_size (row_of series profile s t v) ≡ sample_size series profile s + type_length t
row_bytes_are series profile s t v = omega arith

-- the bytes of the row of a value
pub value_none : (series : Series) (profile : Profile) (s : Sample) (t : ValueType) (v : ℤ) (size : ℕ) → size ≤ 2 ^ 64 - 1 → v ≡ pos 0 → size ≡ with_rows size (value_rows series profile s (t, v))
unfolding value_rows
value_none series profile s t v size fits zero = rw zero (no_bytes size fits)

one_row : (b : Bool) (row : Row) → b ≡ false → cond b [] (row ∷ []) ≡ row ∷ []
one_row true row h = cc
one_row false row h = refl

pub value_some : (series : Series) (profile : Profile) (s : Sample) (t : ValueType) (v : ℤ) (size each kind more : ℕ) → int_eq v (pos 0) ≡ false → each ≡ held (sample_size series profile s) → kind ≡ held (type_length t)
    → more ≡ held (held (size + each) + kind) → more ≡ with_rows size (value_rows series profile s (t, v))
unfolding value_rows
value_some series profile s t v size each kind more other each_is kind_is more_is =
    let one = one_row (int_eq v (pos 0)) (row_of series profile s t v) other in
    omega (arith, row_bytes_are series profile s t v, ap (sum_by row_size) one, each_is, kind_is, more_is)
