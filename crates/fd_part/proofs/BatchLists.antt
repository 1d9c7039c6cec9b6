-- The batches of numbered rows, by a map of the rows of each number.
use Rattle.std.specs.Prelude.{◌≡◌, ◌≢◌, ℕ, ◌+◌, ◌≤◌, ◌<◌, Bool, true, false, if◌then◌else◌, List, [], ◌∷◌, ◌++◌, take, map, filter, unwrap_or, Option, Some, None, slice_get, ◌==◌, IfSome, refl}
use Rattle.std.proofs.Common.{arith, ap, sym, ◌∙◌, subst, cond}
use Rattle.std.specs.BTreeMap.{BTreeMap, IsOrdered, get, is_at, keys, values}
use Rattle.std.specs.Cmp.{unsigned_tied, eq_by_cmp_equiv, nat_cmp_total}
use Rattle.std.specs.declared.cmp.Ordering.TheVariants.{Less}
use Rattle.std.specs.List.{AllByRecursion}
use Rattle.std.specs.List.Sorted.{IsStrictlySortedBy}
use Rattle.std.specs.Map.{lookup, keys_of, values_of}
use Rattle.std.specs.Ordering.{nat_cmp, is_lt}
use Rattle.std.proofs.lemmas.List.{map-append, append-nil}
use Rattle.std.proofs.lemmas.List.Elements.{filter-append, recursion_from_All}
use Rattle.std.proofs.lemmas.Map.Keys.{IsDistinct-from_sorted}
use Rattle.std.proofs.lemmas.Map.Views.{All-values_from_lookup}
use Rattle.fd_kinds.specs.declared.batch.NumberedBatch.{NumberedBatch}
use Rattle.fd_kinds.specs.declared.row.Row.{Row}
use Rattle.fd_kinds.specs.declared.row.Numbered.{Numbered}
use Rattle.fd_kinds.specs.Parts.{rows_of}
use Rattle.fd_kinds.specs.RowOrder.{row_cmp}
use Rattle.fd_shelf.specs.Books.{Each, has_number}
use Rattle.fd_shelf.specs.Histories.{put_row, in_row_order}
use Rattle.fd_part.specs.Batches.{AreBatchesOfRows, AreByNumber, AreListed, HasRows, Rises, entry_of, filled, ordered, rows_at}
use Rattle.fd_part.proofs.BatchSizes.{next_rows}

-- there are rows
abbrev IsSome : List Row → Type 0
IsSome rows = rows ≢ []

unfilled : (rows : List Row) → unwrap_or (filled rows) [] ≡ rows
unfilled [] = refl
unfilled (r ∷ rows) = refl

filled_some : (rows : List Row) → IfSome (filled rows) (λ some. some ≢ [])
filled_some [] = tt
filled_some (r ∷ rows) = λ none. cc

filled_push : (rows : List Row) (r : Row) → filled (rows ++ r ∷ []) ≡ Some (rows ++ r ∷ [])
filled_push [] r = refl
filled_push (x ∷ rows) r = refl

rows_of_one : (r : Numbered) (b : Bool) → rows_of (if b then r ∷ [] else []) ≡ (if b then r.row ∷ [] else [])
rows_of_one r true = refl
rows_of_one r false = refl

rows_more : (number at : ℕ) (rows : List Numbered) (r : Numbered) → slice_get rows at ≡ Some r
    → rows_of (filter (has_number number) (take (at + 1) rows)) ≡ rows_of (filter (has_number number) (take at rows)) ++ (if r.number == number then r.row ∷ [] else [])
rows_more number at rows r there =
    ap (λ front. rows_of (filter (has_number number) front)) (next_rows rows at r there)
    ∙ ap rows_of (filter-append (has_number number) (take at rows) (r ∷ []))
    ∙ map-append (λ (n : Numbered). n.row) (filter (has_number number) (take at rows)) (filter (has_number number) (r ∷ []))
    ∙ ap (λ more. rows_of (filter (has_number number) (take at rows)) ++ more) (rows_of_one r (r.number == number))

one_more : (r : Numbered) (number : ℕ) (gained before : List Row) (was : Option (List Row)) (b : Bool) → (r.number == number) ≡ b → (r.number ≡ number → gained ≡ before ++ r.row ∷ []) → was ≡ filled before
    → cond b (Some gained) (cond b None was) ≡ filled (before ++ (if b then r.row ∷ [] else []))
one_more r number gained before was true is grows same =
    let here : r.number ≡ number = grind (arith, is) in
    ap Some (grows here) ∙ sym (filled_push before r.row)
one_more r number gained before was false is grows same = same ∙ ap filled (sym (append-nil before))

-- The rows up to a place, and the row there, which is put behind those of its number.
pub by_number_more : (old mid new : BTreeMap ℕ (List Row)) (rows : List Numbered) (at : ℕ) (r : Numbered) (gained : List Row) → slice_get rows at ≡ Some r → AreByNumber old (take at rows)
    → ((q : ℕ) → get nat_cmp mid q ≡ cond (is_at (nat_cmp r.number) q) None (get nat_cmp old q))
    → ((q : ℕ) → get nat_cmp new q ≡ cond (is_at (nat_cmp r.number) q) (Some gained) (get nat_cmp mid q))
    → gained ≡ unwrap_or (get nat_cmp old r.number) [] ++ r.row ∷ []
    → AreByNumber new (take (at + 1) rows)
by_number_more old mid new rows at r gained there are takes puts is_gained number =
    let before = rows_of (filter (has_number number) (take at rows)) in
    puts number
    ∙ ap (λ o. cond (is_at (nat_cmp r.number) number) (Some gained) o) (takes number)
    ∙ ap (λ b. cond b (Some gained) (cond b None (get nat_cmp old number))) (unsigned_tied r.number number)
    ∙ one_more r number gained before (get nat_cmp old number) (r.number == number) refl
    (λ same. is_gained ∙ ap (λ n. unwrap_or (get nat_cmp old n) [] ++ r.row ∷ []) same ∙ ap (λ o. unwrap_or o [] ++ r.row ∷ []) (are number) ∙ ap (λ rows. rows ++ r.row ∷ []) (unfilled before))
    (are number)
    ∙ ap filled (sym (rows_more number at rows r there))

-- one batch more is listed
pub listed_more : (batches : List NumberedBatch) (b : NumberedBatch) (e : ℕ × List Row) (rest whole : List (ℕ × List Row)) → map entry_of batches ++ map ordered (e ∷ rest) ≡ whole → entry_of b ≡ ordered e
    → map entry_of (batches ++ b ∷ []) ++ map ordered rest ≡ whole
listed_more [] b e rest whole before is = ap (λ x. x ∷ map ordered rest) is ∙ before
listed_more (x ∷ batches) b e rest whole before is = ap (λ xs. entry_of x ∷ xs) (listed_more batches b e rest (map entry_of batches ++ map ordered (e ∷ rest)) refl is) ∙ before

abbrev head_or : ℕ × List Row → List (ℕ × List Row) → ℕ × List Row
head_or other [] = other
head_or other (e ∷ es) = e

abbrev tail_of : List (ℕ × List Row) → List (ℕ × List Row)
tail_of [] = []
tail_of (e ∷ es) = es

rises_from : (least : ℕ) (batches : List NumberedBatch) (es : List (ℕ × List Row)) → map entry_of batches ≡ map ordered es → AllByRecursion (λ key. least ≤ key) (keys_of es) → IsStrictlySortedBy nat_cmp (keys_of es) → Rises least batches
unfolding IsStrictlySortedBy
rises_from least [] es same low sorted = tt
rises_from least (b ∷ bs) [] same low sorted = absurd (cc)
rises_from least (b ∷ bs) (e ∷ es) same low sorted =
    let here : b.number ≡ e.0 = ap (λ xs. (head_or (ordered e) xs).0) same in
    (omega (arith, here, low.0), rises_from (b.number + 1) bs es (ap tail_of same) (above es sorted.0 here) sorted.1)
  where
    above : (fs : List (ℕ × List Row)) → AllByRecursion (λ key. nat_cmp e.0 key ≡ Less) (keys_of fs) → b.number ≡ e.0 → AllByRecursion (λ key. b.number + 1 ≤ key) (keys_of fs)
    above [] less here = tt
    above (f ∷ fs) less here = (let below : e.0 < f.0 = grind (arith, less.0) in omega (arith, below, here), above fs less.1 here)

put_some_by : (b : Bool) (row r : Row) (rs ys : List Row) → (if b then r ∷ ys else row ∷ r ∷ rs) ≢ []
put_some_by true row r rs ys none = cc
put_some_by false row r rs ys none = cc

put_some : (row : Row) (rows : List Row) → put_row row rows ≢ []
put_some row [] none = cc
put_some row (r ∷ rs) none = put_some_by (is_lt (row_cmp r row)) row r rs (put_row row rs) none

order_some : (rows : List Row) → rows ≢ [] → in_row_order rows ≢ []
order_some [] some none = some refl
order_some (r ∷ rows) some none = put_some r (in_row_order rows) none

each_some : (batches : List NumberedBatch) (es : List (ℕ × List Row)) → map entry_of batches ≡ map ordered es → AllByRecursion (λ rows. rows ≢ []) (values_of es) → Each HasRows batches
each_some [] es same some = tt
each_some (b ∷ bs) [] same some = absurd (cc)
each_some (b ∷ bs) (e ∷ es) same some =
    let here : b.batch.rows ≡ in_row_order e.1 = ap (λ xs. (head_or (ordered e) xs).1) same in
    ((λ none. order_some e.1 some.0 (sym here ∙ none)), each_some bs es (ap tail_of same) some.1)

rows_at_listed : (number : ℕ) (batches : List NumberedBatch) (es : List (ℕ × List Row)) → map entry_of batches ≡ map ordered es
    → rows_at number batches ≡ in_row_order (unwrap_or (lookup (is_at (nat_cmp number)) es) [])
rows_at_listed number [] [] same = refl
rows_at_listed number [] (e ∷ es) same = absurd (cc)
rows_at_listed number (b ∷ bs) [] same = absurd (cc)
rows_at_listed number (b ∷ bs) (e ∷ es) same =
    let is_number : b.number ≡ e.0 = ap (λ xs. (head_or (ordered e) xs).0) same in
    let is_rows : b.batch.rows ≡ in_row_order e.1 = ap (λ xs. (head_or (ordered e) xs).1) same in
    let later = rows_at_listed number bs es (ap tail_of same) in
    ap (λ n. if number == n then b.batch.rows else rows_at number bs) is_number
    ∙ ap (λ rows. if number == e.0 then rows else rows_at number bs) is_rows
    ∙ ap (λ rows. if number == e.0 then in_row_order e.1 else rows) later
    ∙ chosen (number == e.0)
    ∙ sym (ap (λ c. in_row_order (unwrap_or (cond c (Some e.1) (lookup (is_at (nat_cmp number)) es)) [])) (unsigned_tied number e.0))
  where
    chosen : (c : Bool) → (if c then in_row_order e.1 else in_row_order (unwrap_or (lookup (is_at (nat_cmp number)) es) [])) ≡ in_row_order (unwrap_or (cond c (Some e.1) (lookup (is_at (nat_cmp number)) es)) [])
    chosen true = refl
    chosen false = refl

all_low : (es : List (ℕ × List Row)) → AllByRecursion (λ key. 0 ≤ key) (keys_of es)
all_low [] = tt
all_low (e ∷ es) = (omega arith, all_low es)

some_values : (rows : BTreeMap ℕ (List Row)) (table : List Numbered) → IsOrdered nat_cmp rows → AreByNumber rows table → AllByRecursion (λ rows. rows ≢ []) (values rows)
some_values rows table ordered are =
    recursion_from_All (λ rows. rows ≢ []) (values rows)
    (All-values_from_lookup (eq_by_cmp_equiv nat_cmp_total) (λ rows. rows ≢ []) rows.entries (IsDistinct-from_sorted nat_cmp (keys rows) ordered)
    (λ number. subst (λ o. IfSome o (λ rows. rows ≢ [])) (sym (are number)) (filled_some (rows_of (filter (has_number number) table)))))

-- What is listed are the batches of the rows.
pub listed_batches : (rows : BTreeMap ℕ (List Row)) (table : List Numbered) (batches : List NumberedBatch) → AreByNumber rows table → AreListed rows batches → AreBatchesOfRows table batches
listed_batches rows table batches are listed =
    record {
      rises = rises_from 0 batches rows.entries listed.entries (all_low rows.entries) listed.keys;
      some = each_some batches rows.entries listed.entries (some_values rows table listed.keys are);
      each = λ number.
          rows_at_listed number batches rows.entries listed.entries
          ∙ ap (λ o. in_row_order (unwrap_or o [])) (are number)
          ∙ ap in_row_order (unfilled (rows_of (filter (has_number number) table)));
    }
