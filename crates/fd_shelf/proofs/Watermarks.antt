-- The batches up to a number: those of a history, and the rows of the parts that hold them.
use Rattle.std.specs.Prelude.{◌≡◌, ℕ, zero, suc, ◌+◌, ◌-◌, ◌≤◌, ◌<◌, Bool, true, false, if◌then◌else◌, List, [], ◌∷◌, ◌++◌, take, filter, flat_map, All, IsPermutation, IsSorted, Some, slice_get, slice_index_or, refl}
use Rattle.std.specs.Ordering.{is_lt}
use Rattle.std.proofs.Common.{arith, ap, sym, ◌∙◌, subst}
use Rattle.std.proofs.lemmas.List.{append-nil}
use Rattle.std.proofs.lemmas.List.Concat.{flat_map-cons}
use Rattle.std.proofs.lemmas.List.Elements.{All-nil, All-append}
use Rattle.std.proofs.lemmas.List.Sorted.{IsPermutation-trans, IsPermutation-map}
use Rattle.fd_kinds.specs.declared.row.Row.{Row}
use Rattle.fd_kinds.specs.declared.row.Numbered.{Numbered}
use Rattle.fd_kinds.specs.History.{upto}
use Rattle.fd_kinds.specs.Parts.{PartMeaning, IsPart, IsWithin, rows_of}
use Rattle.fd_kinds.specs.RowOrder.{row_cmp}
use Rattle.fd_shelf.specs.Books.{Book, Each, Follows, has_number, all_parts, settled_parts, rows_in}
use Rattle.fd_shelf.specs.Marks.{IsBook}
use Rattle.fd_shelf.specs.Histories.{batch_at, batches_from, hist, put_row, in_row_order}
use Rattle.fd_shelf.specs.Steps.{is_upto, IsWholeAt}
use Rattle.fd_shelf.proofs.BookEnds.{settled_upto, waits_above}
use Rattle.fd_shelf.proofs.Batches.{batches_permute}
use Rattle.fd_shelf.proofs.BookLaws.{each_front, each_back}
use Rattle.fd_shelf.proofs.HistoryLaws.{none_below, rows_of_number, split_rows, first_rows, without}
use Rattle.fd_shelf.proofs.Numbers.{by_number, by_number_permutes}
use Rattle.fd_shelf.proofs.ReplacementLaws.{none_waiting}
use Rattle.fd_shelf.proofs.Runs.{follows_upto}

if_true : {A : Type 0} (b : Bool) (x y : A) → b ≡ true → (if b then x else y) ≡ x
if_true b x y e = rw e refl

if_false : {A : Type 0} (b : Bool) (x y : A) → b ≡ false → (if b then x else y) ≡ y
if_false b x y e = rw e refl

all_upto : (first mark w : ℕ) (parts : List PartMeaning) → Follows first parts mark → mark ≤ w → filter (is_upto w) parts ≡ parts
all_upto first mark w [] follows high = refl
all_upto first mark w (p ∷ ps) follows high =
    let rest = follows_upto (p.hi + 1) mark ps follows.2 in
    if_true (is_upto w p) (p ∷ filter (is_upto w) ps) (filter (is_upto w) ps) (grind (arith, rest, follows.1, high))
    ∙ ap (λ qs. p ∷ qs) (all_upto (p.hi + 1) mark w ps follows.2 high)

-- From the mark on, all parts of the blocks are told.
pub upto_mark : (book : Book) (mark : ℕ) → IsBook book mark → (w : ℕ) → mark ≤ w → filter (is_upto w) (settled_parts book) ≡ settled_parts book
upto_mark book mark order w high = all_upto 1 mark w (settled_parts book) (settled_upto order) high

upto_rows_by : (w n : ℕ) (p : PartMeaning) (ps picked : List PartMeaning) (b : Bool) → is_upto w p ≡ b → IsPart p → n ≤ w → rows_of_number picked n ≡ rows_of_number ps n
    → rows_of_number (if b then p ∷ picked else picked) n ≡ rows_of_number (p ∷ ps) n
upto_rows_by w n p ps picked true is part within later = first_rows n p picked ∙ ap (λ rows. filter (has_number n) p.rows ++ rows) later ∙ sym (first_rows n p ps)
upto_rows_by w n p ps picked false is part within later =
    let above : w < p.lo = grind (arith, is) in
    later ∙ sym (without n p ps (none_below n p.lo p.hi p.rows (omega (arith, above, within)) part.within))

upto_rows : (w n : ℕ) (parts : List PartMeaning) → Each IsPart parts → n ≤ w → rows_of_number (filter (is_upto w) parts) n ≡ rows_of_number parts n
upto_rows w n [] are within = refl
upto_rows w n (p ∷ ps) are within = upto_rows_by w n p ps (filter (is_upto w) ps) (is_upto w p) refl are.0 within (upto_rows w n ps are.1 within)

-- the rows of a number up to the mark stand in the blocks
all_rows : (book : Book) (mark n : ℕ) → IsBook book mark → n ≤ mark → rows_of_number (all_parts book) n ≡ rows_of_number (settled_parts book) n
all_rows book mark n order within =
    let settled = settled_parts book in
    split_rows n settled book.stragglers
    ∙ ap (λ more. rows_of_number settled n ++ more) (none_waiting mark n book.stragglers (waits_above order) (each_back IsPart settled book.stragglers order.well_formed.parts) within)
    ∙ append-nil (rows_of_number settled n)

told_rows : (book : Book) (mark w n : ℕ) → IsBook book mark → w ≤ mark → n ≤ w → rows_of_number (all_parts book) n ≡ rows_of_number (filter (is_upto w) (settled_parts book)) n
told_rows book mark w n order upto within =
    all_rows book mark n order (omega (arith, upto, within))
    ∙ sym (upto_rows w n (settled_parts book) (each_front IsPart (settled_parts book) book.stragglers order.well_formed.parts) within)

batch_of : (parts : List PartMeaning) (number count i : ℕ) → i < count → slice_get (batches_from parts number count) i ≡ Some (batch_at parts (number + i))
batch_of parts number zero i inside = absurd (omega (arith, inside))
batch_of parts number (suc count) zero inside =
    let same : number ≡ number + zero = omega arith in
    ap (λ n. Some (batch_at parts n)) same
batch_of parts number (suc count) (suc i) inside =
    let same : number + 1 + i ≡ number + suc i = omega arith in
    batch_of parts (number + 1) count i (omega (arith, inside)) ∙ ap (λ n. Some (batch_at parts n)) same

-- The rows of a number among the parts up to a number at or above it are its batch.
pub history_batch : (book : Book) (mark : ℕ) → IsBook book mark
    → (w n : ℕ) → w ≤ mark → 0 < n → n ≤ w → slice_get (hist book mark) (n - 1) ≡ Some (batch_at (filter (is_upto w) (settled_parts book)) n)
history_batch book mark order w n upto some within =
    let same : 1 + (n - 1) ≡ n = omega (arith, some) in
    batch_of (all_parts book) 1 mark (n - 1) (omega (arith, upto, some, within))
    ∙ ap (λ m. Some (batch_at (all_parts book) m)) same
    ∙ ap (λ rows. Some (in_row_order (rows_of rows))) (told_rows book mark w n order upto within)

first_batches : (parts : List PartMeaning) (number w count : ℕ) → w ≤ count → take w (batches_from parts number count) ≡ batches_from parts number w
first_batches parts number zero count within = refl
first_batches parts number (suc w) zero within = absurd (omega (arith, within))
first_batches parts number (suc w) (suc count) within = ap (λ batches. batch_at parts number ∷ batches) (first_batches parts (number + 1) w count (omega (arith, within)))

within_by : (w : ℕ) (p : PartMeaning) (picked : List PartMeaning) (b : Bool) → is_upto w p ≡ b → 0 < p.lo → IsPart p → IsWholeAt w p → All (IsWithin 1 w) (rows_in picked)
    → All (IsWithin 1 w) (rows_in (if b then p ∷ picked else picked))
within_by w p picked true is some part whole later =
    let low : p.lo ≤ w = grind (arith, is) in
    let high = whole low in
    let here : All (IsWithin 1 w) p.rows = λ k d inside. (let row = part.within k d inside in (omega (arith, some, row.0), omega (arith, high, row.1))) in
    subst (λ rows. All (IsWithin 1 w) rows) (sym (flat_map-cons (λ (q : PartMeaning). q.rows) p picked))
    (All-append (IsWithin 1 w) p.rows (rows_in picked) here later)
within_by w p picked false is some part whole later = later

all_within_upto : (first mark w : ℕ) (parts : List PartMeaning) → 0 < first → Follows first parts mark → Each IsPart parts → Each (IsWholeAt w) parts → All (IsWithin 1 w) (rows_in (filter (is_upto w) parts))
all_within_upto first mark w [] some follows are whole = All-nil (IsWithin 1 w)
all_within_upto first mark w (p ∷ ps) some follows are whole =
    within_by w p (filter (is_upto w) ps) (is_upto w p) refl (omega (arith, some, follows.0)) are.0 whole.0
    (all_within_upto (p.hi + 1) mark w ps (omega arith) follows.2 are.1 whole.1)

-- Where no part holds the number and a greater one, those rows are those of the first batches.
pub history_upto : (book : Book) (mark : ℕ) → IsBook book mark
    → (w : ℕ) → w ≤ mark → Each (IsWholeAt w) (settled_parts book) → IsPermutation (rows_of (rows_in (filter (is_upto w) (settled_parts book)))) (upto (hist book mark) w)
history_upto book mark order w within whole =
    let rows = rows_in (filter (is_upto w) (settled_parts book)) in
    let are = each_front IsPart (settled_parts book) book.stragglers order.well_formed.parts in
    subst (λ batches. IsPermutation (rows_of rows) (flat_map (λ (batch : List Row). batch) batches)) (sym (first_batches (all_parts book) 1 w mark within))
    (IsPermutation-trans (rows_of rows) (rows_of (by_number rows 1 w)) (flat_map (λ (batch : List Row). batch) (batches_from (all_parts book) 1 w))
    (IsPermutation-map (λ (n : Numbered). n.row) rows (by_number rows 1 w) (by_number_permutes 1 w w rows (all_within_upto 1 mark w (settled_parts book) (omega arith) (settled_upto order) are whole) (omega arith)))
    (batches_permute (all_parts book) rows w 1 w (λ n low. told_rows book mark w n order within low) (omega arith)))

batches_push : (parts : List PartMeaning) (number count : ℕ) → batches_from parts number (suc count) ≡ batches_from parts number count ++ batch_at parts (number + count) ∷ []
batches_push parts number zero = ap (λ n. batch_at parts n ∷ []) (omega arith)
batches_push parts number (suc count) =
    let next : number + 1 + count ≡ number + suc count = omega arith in
    ap (λ batches. batch_at parts number ∷ batches) (batches_push parts (number + 1) count ∙ ap (λ n. batches_from parts (number + 1) count ++ batch_at parts n ∷ []) next)

-- one more number has its batch
pub history_push : (book : Book) (w : ℕ) → hist book (w + 1) ≡ hist book w ++ batch_at (all_parts book) (w + 1) ∷ []
history_push book w =
    let one : w + 1 ≡ suc w = omega arith in
    let next : 1 + w ≡ w + 1 = omega arith in
    ap (batches_from (all_parts book) 1) one ∙ batches_push (all_parts book) 1 w ∙ ap (λ n. hist book w ++ batch_at (all_parts book) n ∷ []) next

-- the batch of the number behind the mark is the next one
pub next_batch : (new old : Book) (mark number : ℕ) (batch : List Row) → number ≡ mark + 1 → hist new mark ≡ hist old mark → batch_at (all_parts new) number ≡ batch
    → hist new (mark + 1) ≡ hist old mark ++ batch ∷ []
next_batch new old mark number batch next kept here =
    history_push new mark
    ∙ ap (λ history. history ++ batch_at (all_parts new) (mark + 1) ∷ []) kept
    ∙ ap (λ last. hist old mark ++ last ∷ []) (ap (batch_at (all_parts new)) (sym next) ∙ here)

put_first : (r : Row) (rows : List Row) → IsSorted row_cmp (r ∷ rows) → put_row r rows ≡ r ∷ rows
put_first r [] sorted = refl
put_first r (s ∷ rows) sorted = if_false (is_lt (row_cmp s r)) (s ∷ put_row r rows) (r ∷ s ∷ rows) (sorted 0 r (omega arith) (omega arith))

-- sorted rows are in the row order
pub in_order_of_sorted : (rows : List Row) → IsSorted row_cmp rows → in_row_order rows ≡ rows
in_order_of_sorted [] sorted = refl
in_order_of_sorted (r ∷ rows) sorted =
    let later : IsSorted row_cmp rows = λ k d low inside. (
    let next : suc k + 1 ≡ suc (k + 1) = omega arith in
    subst (λ (n : ℕ). is_lt (row_cmp (slice_index_or (r ∷ rows) n d) (slice_index_or (r ∷ rows) (suc k) d)) ≡ false) next (sorted (suc k) d (omega arith) (omega (arith, inside)))
    ) in
    ap (put_row r) (in_order_of_sorted rows later) ∙ put_first r rows sorted
