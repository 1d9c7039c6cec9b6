-- The bytes of the rows of each number, one row after another.
use Rattle.std.specs.Prelude.{◌≡◌, ℕ, ◌+◌, ◌-◌, ◌≤◌, ◌<◌, ◌^◌, Bool, true, false, if◌then◌else◌, List, [], ◌∷◌, ◌++◌, take, drop, filter, min, sum_by, unwrap_or, Some, Option, slice_get, ◌==◌, ◌↔◌, IsTrue, nat_le, length, refl}
use Rattle.std.proofs.Common.{arith, ap, sym, ◌∙◌, subst, cond, nat_cmp, true≢false}
use Rattle.std.specs.BTreeMap.{BTreeMap, get, is_at}
use Rattle.std.specs.Cmp.{unsigned_tied}
use Rattle.std.proofs.lemmas.List.{take_more, take_all, take-append-drop}
use Rattle.std.proofs.lemmas.List.Elements.{filter-append}
use Rattle.std.proofs.lemmas.List.Sums.{sum_by-append, sum_by-cons}
use Rattle.std.proofs.lemmas.Option.{slice_get_within, get_or_from_slice_get}
use Rattle.fd_kinds.specs.declared.row.Row.{Row}
use Rattle.fd_kinds.specs.declared.row.Numbered.{Numbered}
use Rattle.fd_kinds.specs.RowSize.{row_size}
use Rattle.fd_kinds.specs.Parts.{with_number}
use Rattle.fd_kinds.proofs.PartLaws.{sum_by_with_number}
use Rattle.fd_shelf.specs.Books.{has_number}
use Rattle.fd_kinds.specs.declared.limits.TheConstants.{MOST_BATCH_BYTES}
use Rattle.fd_part.specs.Sizes.{bytes_of, bytes_at, AreSmallBatches, HasLargeBatch, AreSizes}

bytes_append : (number : ℕ) (xs ys : List Numbered) → bytes_at number (xs ++ ys) ≡ bytes_at number xs + bytes_at number ys
bytes_append number xs ys =
    ap (sum_by (λ (n : Numbered). row_size n.row)) (filter-append (has_number number) xs ys)
    ∙ sum_by-append (λ (n : Numbered). row_size n.row) (filter (has_number number) xs) (filter (has_number number) ys)

bytes_upto : (number at : ℕ) (rows : List Numbered) → bytes_at number (take at rows) ≤ bytes_at number rows
bytes_upto number at rows =
    let whole : bytes_at number rows ≡ bytes_at number (take at rows) + bytes_at number (drop at rows) =
    ap (bytes_at number) (sym (take-append-drop at rows)) ∙ bytes_append number (take at rows) (drop at rows) in
    omega (arith, whole)

one_by : (r : Numbered) (b : Bool) → sum_by (λ (n : Numbered). row_size n.row) (if b then r ∷ [] else []) ≡ (if b then row_size r.row else 0)
one_by r true =
    let alone : row_size r.row + 0 ≡ row_size r.row = omega arith in sum_by-cons (λ (n : Numbered). row_size n.row) r [] ∙ alone
one_by r false = refl

pub next_rows : (rows : List Numbered) (at : ℕ) (r : Numbered) → slice_get rows at ≡ Some r → take (at + 1) rows ≡ take at rows ++ r ∷ []
next_rows rows at r there = take_more rows at r (slice_get_within rows at r there) ∙ ap (λ n. take at rows ++ n ∷ []) (get_or_from_slice_get rows at r r there)

bytes_more : (number at : ℕ) (rows : List Numbered) (r : Numbered) → slice_get rows at ≡ Some r
    → bytes_at number (take (at + 1) rows) ≡ bytes_at number (take at rows) + (if r.number == number then row_size r.row else 0)
bytes_more number at rows r there =
    ap (bytes_at number) (next_rows rows at r there)
    ∙ bytes_append number (take at rows) (r ∷ [])
    ∙ ap (λ n. bytes_at number (take at rows) + n) (one_by r (r.number == number))

size_by : (rows more : List Numbered) (r : Numbered) (number sum : ℕ) (old : Option ℕ) (before : ℕ) (b : Bool) → (r.number == number) ≡ b
    → bytes_at number more ≡ bytes_at number rows + (if b then row_size r.row else 0)
    → unwrap_or old 0 ≡ bytes_at number rows → bytes_at number rows ≤ MOST_BATCH_BYTES → (r.number ≡ number → before ≡ unwrap_or old 0)
    → sum ≡ min (before + min (row_size r.row) (2 ^ 64 - 1)) (2 ^ 64 - 1) → sum ≤ MOST_BATCH_BYTES
    → (unwrap_or (cond b (Some sum) old) 0 ≡ bytes_at number more) × (bytes_at number more ≤ MOST_BATCH_BYTES)
size_by rows more r number sum old before true is whole counted small same is_sum fits =
    let here : r.number ≡ number = grind (arith, is) in
    let was = same here in
    (omega (arith, whole, counted, was, is_sum, fits), omega (arith, whole, counted, was, is_sum, fits))
size_by rows more r number sum old before false is whole counted small same is_sum fits = (omega (arith, whole, counted), omega (arith, whole, small))

-- The sizes of the rows up to a place, and of the row there, where its number's are few enough.
pub sizes_more : (old new : BTreeMap ℕ ℕ) (rows : List Numbered) (at : ℕ) (r : Numbered) (sum : ℕ) → slice_get rows at ≡ Some r → AreSizes old (take at rows)
    → ((q : ℕ) → get nat_cmp new q ≡ cond (is_at (nat_cmp r.number) q) (Some sum) (get nat_cmp old q))
    → sum ≡ min (unwrap_or (get nat_cmp old r.number) 0 + min (row_size r.row) (2 ^ 64 - 1)) (2 ^ 64 - 1) → sum ≤ MOST_BATCH_BYTES
    → AreSizes new (take (at + 1) rows)
sizes_more old new rows at r sum there sizes puts is_sum fits number =
    let is = size_by (take at rows) (take (at + 1) rows) r number sum (get nat_cmp old number) (unwrap_or (get nat_cmp old r.number) 0) (r.number == number) refl
    (bytes_more number at rows r there) (sizes number).counted (sizes number).small (λ same. ap (λ n. unwrap_or (get nat_cmp old n) 0) same) is_sum fits in
    record {
      counted = ap (λ o. unwrap_or o 0) (puts number ∙ ap (λ b. cond b (Some sum) (get nat_cmp old number)) (unsigned_tied r.number number)) ∙ is.0;
      small = is.1;
    }

-- The rows of a number have too many bytes, where those up to a place and the one there have.
pub large_at : (old : BTreeMap ℕ ℕ) (rows : List Numbered) (at : ℕ) (r : Numbered) (sum : ℕ) → slice_get rows at ≡ Some r → AreSizes old (take at rows)
    → sum ≡ min (unwrap_or (get nat_cmp old r.number) 0 + min (row_size r.row) (2 ^ 64 - 1)) (2 ^ 64 - 1) → MOST_BATCH_BYTES < sum
    → HasLargeBatch rows
large_at old rows at r sum there sizes is_sum large =
    let own : (r.number == r.number) ≡ true = grind arith in
    let more : bytes_at r.number (take (at + 1) rows) ≡ bytes_at r.number (take at rows) + row_size r.row =
    bytes_more r.number at rows r there ∙ ap (λ b. bytes_at r.number (take at rows) + (if b then row_size r.row else 0)) own in
    let counted = (sizes r.number).counted in
    let upto = bytes_upto r.number (at + 1) rows in
    record { number = r.number; large = omega (arith, more, counted, upto, is_sum, large) }

all_small_by : (number : ℕ) (rows : List Row) (other : ℕ) (b : Bool) → (number == other) ≡ b → bytes_at other (with_number number rows) ≤ sum_by row_size rows
all_small_by number rows other b is =
    let whole : bytes_at other (with_number number rows) ≤ sum_by (λ (n : Numbered). row_size n.row) (with_number number rows) = below (with_number number rows) in
    omega (arith, whole, sum_by_with_number number rows)
  where
    below_by : (r : Numbered) (rest : List Numbered) (c : Bool) → sum_by (λ (n : Numbered). row_size n.row) (filter (has_number other) rest) ≤ sum_by (λ (n : Numbered). row_size n.row) rest
        → sum_by (λ (n : Numbered). row_size n.row) (if c then r ∷ filter (has_number other) rest else filter (has_number other) rest) ≤ sum_by (λ (n : Numbered). row_size n.row) (r ∷ rest)
    below_by r rest true later = omega (arith, later, sum_by-cons (λ (n : Numbered). row_size n.row) r (filter (has_number other) rest), sum_by-cons (λ (n : Numbered). row_size n.row) r rest)
    below_by r rest false later = omega (arith, later, sum_by-cons (λ (n : Numbered). row_size n.row) r rest)

    below : (xs : List Numbered) → bytes_at other xs ≤ sum_by (λ (n : Numbered). row_size n.row) xs
    below [] = omega arith
    below (x ∷ xs) = below_by x xs (x.number == other) (below xs)

own_rows : (number : ℕ) (rows : List Row) → filter (has_number number) (with_number number rows) ≡ with_number number rows
own_rows number [] = refl
own_rows number (r ∷ rows) =
    let own : (number == number) ≡ true = grind arith in
    let numbered : Numbered = record { number = number; row = r } in
    ap (λ b. if b then numbered ∷ filter (has_number number) (with_number number rows) else filter (has_number number) (with_number number rows)) own
    ∙ ap (λ rest. numbered ∷ rest) (own_rows number rows)

-- A batch with few bytes is a small one under its number ..
loose_small : (number : ℕ) (rows : List Row) → bytes_of rows ≤ MOST_BATCH_BYTES → AreSmallBatches (with_number number rows)
loose_small number rows few other = let below = all_small_by number rows other (number == other) refl in omega (arith, below, few)

-- .. and one with more is not.
loose_large : (number : ℕ) (rows : List Row) → MOST_BATCH_BYTES < bytes_of rows → HasLargeBatch (with_number number rows)
loose_large number rows many =
    let own : bytes_at number (with_number number rows) ≡ sum_by row_size rows =
    ap (sum_by (λ (n : Numbered). row_size n.row)) (own_rows number rows) ∙ sum_by_with_number number rows in
    record { number = number; large = omega (arith, own, many) }

large_is_not_small : (rows : List Numbered) → HasLargeBatch rows → AreSmallBatches rows → ⊥
large_is_not_small rows large small = let most = small large.number in let over = large.large in omega (arith, most, over)

pub no_small : (rows : List Numbered) → HasLargeBatch rows → IsTrue false ↔ AreSmallBatches rows
no_small rows large = ((λ is. absurd (true≢false (sym is))), (λ small. absurd (large_is_not_small rows large small)))

pub all_small : (sizes : BTreeMap ℕ ℕ) (rows : List Numbered) (at : ℕ) → AreSizes sizes (take at rows) → at ≡ length rows → IsTrue true ↔ AreSmallBatches rows
all_small sizes rows at are all =
    let whole : take at rows ≡ rows = take_all at rows (omega (arith, all)) in
    ((λ _ number. subst (λ (xs : List Numbered). bytes_at number xs ≤ MOST_BATCH_BYTES) whole (are number).small), (λ _. refl))

one_by_test : (number bytes : ℕ) (rows : List Row) (b : Bool) → nat_le bytes MOST_BATCH_BYTES ≡ b → bytes ≡ bytes_of rows → IsTrue b ↔ AreSmallBatches (with_number number rows)
one_by_test number bytes rows true is counted =
    let few : bytes ≤ MOST_BATCH_BYTES = grind (arith, is) in
    ((λ _. loose_small number rows (omega (arith, few, counted))), (λ _. refl))
one_by_test number bytes rows false is counted =
    let many : MOST_BATCH_BYTES < bytes = grind (arith, is) in
    no_small (with_number number rows) (loose_large number rows (omega (arith, many, counted)))

pub one_small : (number bytes : ℕ) (rows : List Row) → bytes ≡ bytes_of rows → IsTrue (nat_le bytes MOST_BATCH_BYTES) ↔ AreSmallBatches (with_number number rows)
one_small number bytes rows counted = one_by_test number bytes rows (nat_le bytes MOST_BATCH_BYTES) refl counted
