-- A sealed part in place of the parts of its range: the book stays in order, and the history stays.
use Rattle.std.specs.Prelude.{◌≡◌, ◌⊎◌, ℕ, zero, suc, ◌+◌, ◌-◌, ◌≤◌, ◌<◌, Bool, true, false, nat_lt, if◌then◌else◌, List, [], ◌∷◌, ◌++◌, length, take, drop, filter, flat_map, All, IsPermutation, refl}
use Rattle.std.proofs.Common.{arith, ap, sym, ◌∙◌, subst, inl, inr, ⊎_elim, true≢false}
use Rattle.std.proofs.lemmas.List.{append-nil, append_assoc, take-append-drop, drop-drop}
use Rattle.std.proofs.lemmas.List.Elements.{All-head, All-tail, All-nil, All-append, filter-append}
use Rattle.std.proofs.lemmas.List.Concat.{flat_map-cons}
use Rattle.std.proofs.lemmas.Bool.{cases_lt}
use Rattle.fd_kinds.specs.declared.row.Numbered.{Numbered}
use Rattle.fd_kinds.specs.Parts.{PartMeaning, IsPart, IsWithin, rows_of}
use Rattle.fd_shelf.specs.Books.{Each, Follows, Waits, IsLoose, IsSealed, IsLight, SealedFirst, HasSmallBatches, has_number, all_parts, rows_in, bytes_of}
use Rattle.fd_kinds.specs.declared.limits.TheConstants.{MOST_BATCH_BYTES}
use Rattle.fd_shelf.specs.Marks.{IsBook}
use Rattle.fd_shelf.specs.Histories.{batch_at, batches_from, hist, in_row_order}
use Rattle.fd_shelf.specs.Layout.{spliced}
use Rattle.fd_shelf.specs.Replacement.{HasRowsOf, IsInOrder, IsRunAt, ends_below, begins_above, put_over}
use Rattle.fd_shelf.proofs.BookEnds.{settled_upto, mark_bounded, waits_above, book_upto}
use Rattle.fd_shelf.proofs.BookLaws.{each_append, each_front, each_back}
use Rattle.fd_shelf.proofs.HistoryLaws.{none_below, rows_of_number, split_rows, first_rows, without}
use Rattle.fd_shelf.proofs.Numbers.{same_in_order, same_in_range, same_bytes, same_count}
use Rattle.fd_shelf.proofs.Splices.{cut, rows_in_append, bytes_append}
use Rattle.fd_shelf.proofs.Runs.{follows_split, follows_join, follows_upto}

if_true : {A : Type 0} (b : Bool) (x y : A) → b ≡ true → (if b then x else y) ≡ x
if_true b x y e = rw e refl

if_false : {A : Type 0} (b : Bool) (x y : A) → b ≡ false → (if b then x else y) ≡ y
if_false b x y e = rw e refl

-- no row of these has a number above their range
none_above : (number lo hi : ℕ) (rows : List Numbered) → hi < number → All (IsWithin lo hi) rows → filter (has_number number) rows ≡ []
none_above number lo hi [] above within = refl
none_above number lo hi (r ∷ rows) above within =
    let here = All-head (IsWithin lo hi) r rows within in
    let other : r.number < number = omega (arith, here.1, above) in
    grind (arith, other, none_above number lo hi rows above (All-tail (IsWithin lo hi) r rows within))

pub none_in_front : (first mid number : ℕ) (parts : List PartMeaning) → Follows first parts mid → Each IsPart parts → mid < number → rows_of_number parts number ≡ []
none_in_front first mid number [] follows are over = refl
none_in_front first mid number (p ∷ ps) follows are over =
    let upto = follows_upto (p.hi + 1) mid ps follows.2 in
    without number p ps (none_above number p.lo p.hi p.rows (omega (arith, upto, over)) are.0.within)
    ∙ none_in_front (p.hi + 1) mid number ps follows.2 are.1 over

pub none_in_back : (first mark number : ℕ) (parts : List PartMeaning) → Follows first parts mark → Each IsPart parts → number < first → rows_of_number parts number ≡ []
none_in_back first mark number [] follows are under = refl
none_in_back first mark number (p ∷ ps) follows are under =
    without number p ps (none_below number p.lo p.hi p.rows (omega (arith, follows.0, under)) are.0.within)
    ∙ none_in_back (p.hi + 1) mark number ps follows.2 are.1 (omega (arith, follows.0, follows.1, under))

pub none_waiting : (above number : ℕ) (parts : List PartMeaning) → Waits above parts → Each IsPart parts → number ≤ above → rows_of_number parts number ≡ []
none_waiting above number [] waits are under = refl
none_waiting above number (p ∷ ps) waits are under =
    without number p ps (none_below number p.lo p.hi p.rows (omega (arith, waits.0, under)) are.0.within)
    ∙ none_waiting p.lo number ps waits.3 are.1 (omega (arith, waits.0, under))

-- a range of parts that follow one another, one for each number
pub run_parts : (lo last mark count : ℕ) (parts : List PartMeaning) → Follows lo parts mark → Each IsPart parts → Each IsLoose parts → last + 1 ≡ lo + count → last ≤ mark
    → Follows lo (take count parts) last × Follows (last + 1) (drop count parts) mark
run_parts lo last mark zero parts follows are loose counted within =
    let same : last + 1 ≡ lo = omega (arith, counted) in (sym same, rw same follows)
run_parts lo last mark (suc count) [] follows are loose counted within = absurd (omega (arith, follows, counted, within))
run_parts lo last mark (suc count) (p ∷ ps) follows are loose counted within =
    let one : p.lo ≡ p.hi = are.0.one_number loose.0 in
    let rest = run_parts (p.hi + 1) last mark count ps follows.2 are.1 loose.1 (omega (arith, one, follows.0, counted)) within in
    ((follows.0, follows.1, rest.0), rest.1)

-- what stands around a part: the parts before it, those that it replaces, those behind, and those that wait
pub record Fits (front middle back waiting : List PartMeaning) (mark : ℕ) (part : PartMeaning) : Type 0 where
  pub below : ℕ
  pub next : part.lo ≡ below + 1
  pub before : Follows 1 front below
  pub between : Follows part.lo middle part.hi
  pub behind : Follows (part.hi + 1) back mark
  pub bounded : part.hi ≤ mark
  pub waits : Waits mark waiting
  pub front_are : Each IsPart front
  pub middle_are : Each IsPart middle
  pub back_are : Each IsPart back
  pub waiting_are : Each IsPart waiting
  pub front_small : Each HasSmallBatches front
  pub middle_small : Each HasSmallBatches middle
  pub back_small : Each HasSmallBatches back
  pub waiting_small : Each HasSmallBatches waiting
  pub is : IsPart part
  pub rows : HasRowsOf ((front ++ (middle ++ back)) ++ waiting) part

pub parts_rows : (n : ℕ) (front middle back waiting : List PartMeaning)
    → rows_of_number ((front ++ (middle ++ back)) ++ waiting) n ≡ (rows_of_number front n ++ (rows_of_number middle n ++ rows_of_number back n)) ++ rows_of_number waiting n
parts_rows n front middle back waiting =
    split_rows n (front ++ (middle ++ back)) waiting
    ∙ ap (λ rows. rows ++ rows_of_number waiting n) (split_rows n front (middle ++ back))
    ∙ ap (λ rows. (rows_of_number front n ++ rows) ++ rows_of_number waiting n) (split_rows n middle back)

pub only_middle : (f m b w : List Numbered) → f ≡ [] → b ≡ [] → w ≡ [] → (f ++ (m ++ b)) ++ w ≡ m
only_middle f m b w no_f no_b no_w = rw no_f (rw no_b (rw no_w (append-nil (m ++ []) ∙ append-nil m)))

-- the rows of a number of the range
rows_between : (front middle other back waiting : List PartMeaning) (mark n : ℕ) (part : PartMeaning) → Fits front middle back waiting mark part → part.lo ≤ n → n ≤ part.hi
    → rows_of_number ((front ++ (other ++ back)) ++ waiting) n ≡ rows_of_number other n
rows_between front middle other back waiting mark n part fits low high =
    parts_rows n front other back waiting
    ∙ only_middle (rows_of_number front n) (rows_of_number other n) (rows_of_number back n) (rows_of_number waiting n)
    (none_in_front 1 fits.below n front fits.before fits.front_are (omega (arith, fits.next, low)))
    (none_in_back (part.hi + 1) mark n back fits.behind fits.back_are (omega (arith, high)))
    (none_waiting mark n waiting fits.waits fits.waiting_are (omega (arith, high, fits.bounded)))

pub none_of_part : (part : PartMeaning) (n : ℕ) → IsPart part → (n < part.lo) ⊎ (part.hi < n) → filter (has_number n) part.rows ≡ []
none_of_part part n is out =
    ⊎_elim
    (λ (under : n < part.lo). none_below n part.lo part.hi part.rows under is.within)
    (λ (over : part.hi < n). none_above n part.lo part.hi part.rows over is.within)
    out

none_between : (front middle back waiting : List PartMeaning) (mark n : ℕ) (part : PartMeaning) → Fits front middle back waiting mark part → (n < part.lo) ⊎ (part.hi < n) → rows_of_number middle n ≡ []
none_between front middle back waiting mark n part fits out =
    ⊎_elim
    (λ (under : n < part.lo). none_in_back part.lo part.hi n middle fits.between fits.middle_are under)
    (λ (over : part.hi < n). none_in_front part.lo part.hi n middle fits.between fits.middle_are over)
    out

-- the rows of a number of no part of the range
rows_outside : (front middle back waiting : List PartMeaning) (mark n : ℕ) (part : PartMeaning) → Fits front middle back waiting mark part → (n < part.lo) ⊎ (part.hi < n)
    → rows_of_number ((front ++ (part ∷ back)) ++ waiting) n ≡ rows_of_number ((front ++ (middle ++ back)) ++ waiting) n
rows_outside front middle back waiting mark n part fits out =
    let none : rows_of_number (part ∷ []) n ≡ [] = without n part [] (none_of_part part n fits.is out) in
    parts_rows n front (part ∷ []) back waiting
    ∙ ap (λ rows. (rows_of_number front n ++ (rows ++ rows_of_number back n)) ++ rows_of_number waiting n) (none ∙ sym (none_between front middle back waiting mark n part fits out))
    ∙ sym (parts_rows n front middle back waiting)

in_or_out : (lo hi n : ℕ) → ((lo ≤ n) × (n ≤ hi)) ⊎ ((n < lo) ⊎ (hi < n))
in_or_out lo hi n =
    ⊎_elim
    (λ (under : n < lo). inr (inl under))
    (λ (low : lo ≤ n). ⊎_elim (λ (over : hi < n). inr (inr over)) (λ (high : n ≤ hi). inl (low, high)) (cases_lt hi n))
    (cases_lt n lo)

-- each number keeps its batch
batch_kept : (front middle back waiting : List PartMeaning) (mark : ℕ) (part : PartMeaning) → Fits front middle back waiting mark part
    → (n : ℕ) → batch_at ((front ++ (part ∷ back)) ++ waiting) n ≡ batch_at ((front ++ (middle ++ back)) ++ waiting) n
batch_kept front middle back waiting mark part fits n =
    ⊎_elim
    (λ (inside : (part.lo ≤ n) × (n ≤ part.hi)).
    ap (λ rows. in_row_order (rows_of rows)) (rows_between front middle (part ∷ []) back waiting mark n part fits inside.0 inside.1) ∙ fits.rows n inside.0 inside.1)
    (λ (out : (n < part.lo) ⊎ (part.hi < n)). ap (λ rows. in_row_order (rows_of rows)) (rows_outside front middle back waiting mark n part fits out))
    (in_or_out part.lo part.hi n)

batches_same : (ps qs : List PartMeaning) (number count : ℕ) → ((n : ℕ) → batch_at ps n ≡ batch_at qs n) → batches_from ps number count ≡ batches_from qs number count
batches_same ps qs number zero same = refl
batches_same ps qs number (suc count) same =
    ap (λ batch. batch ∷ batches_from ps (number + 1) count) (same number) ∙ ap (λ batches. batch_at qs number ∷ batches) (batches_same ps qs (number + 1) count same)

-- The part has the rows of those that it replaces.
same_at : (front middle back waiting : List PartMeaning) (mark : ℕ) (part : PartMeaning) → Fits front middle back waiting mark part
    → (n : ℕ) → part.lo ≤ n → n ≤ part.hi → IsPermutation (rows_of (filter (has_number n) part.rows)) (rows_of (filter (has_number n) (rows_in middle)))
same_at front middle back waiting mark part fits n low high =
    same_in_order (rows_of (filter (has_number n) part.rows)) (rows_of (filter (has_number n) (rows_in middle)))
    (ap (λ rows. in_row_order (rows_of rows)) (sym (first_rows n part [] ∙ append-nil (filter (has_number n) part.rows)))
    ∙ fits.rows n low high
    ∙ ap (λ rows. in_row_order (rows_of rows)) (rows_between front middle middle back waiting mark n part fits low high))

pub all_within : (lo hi : ℕ) (parts : List PartMeaning) (first : ℕ) → lo ≤ first → Follows first parts hi → Each IsPart parts → All (IsWithin lo hi) (rows_in parts)
all_within lo hi [] first low follows are = All-nil (IsWithin lo hi)
all_within lo hi (p ∷ ps) first low follows are =
    let upto = follows_upto (p.hi + 1) hi ps follows.2 in
    let here : All (IsWithin lo hi) p.rows = λ k d inside. (let w = are.0.within k d inside in (omega (arith, low, follows.0, w.0), omega (arith, upto, w.1))) in
    rw (flat_map-cons (λ (q : PartMeaning). q.rows) p ps)
    (All-append (IsWithin lo hi) p.rows (rows_in ps) here (all_within lo hi ps (p.hi + 1) (omega (arith, low, follows.0, follows.1)) follows.2 are.1))

pub same_rows : (front middle back waiting : List PartMeaning) (mark : ℕ) (part : PartMeaning) → Fits front middle back waiting mark part → IsPermutation (rows_of part.rows) (rows_of (rows_in middle))
same_rows front middle back waiting mark part fits =
    same_in_range part.lo part.hi part.rows (rows_in middle) fits.is.ordered fits.is.within
    (all_within part.lo part.hi middle part.lo (omega arith) fits.between fits.middle_are)
    (same_at front middle back waiting mark part fits)

-- among parts that follow one another, each number has a small batch
small_between : (first mark n : ℕ) (parts : List PartMeaning) → Follows first parts mark → Each IsPart parts → Each HasSmallBatches parts → bytes_of (rows_of_number parts n) ≤ MOST_BATCH_BYTES
small_between first mark n [] follows are small = omega arith
small_between first mark n (p ∷ ps) follows are small =
    ⊎_elim
    (λ (later : p.hi < n). rw (without n p ps (none_above n p.lo p.hi p.rows later are.0.within)) (small_between (p.hi + 1) mark n ps follows.2 are.1 small.1))
    (λ (here : n ≤ p.hi).
    rw (first_rows n p ps ∙ ap (λ rows. filter (has_number n) p.rows ++ rows) (none_in_back (p.hi + 1) mark n ps follows.2 are.1 (omega (arith, here))) ∙ append-nil (filter (has_number n) p.rows))
    (small.0 n))
    (cases_lt p.hi n)

pub part_is_small : (front middle back waiting : List PartMeaning) (mark : ℕ) (part : PartMeaning) → Fits front middle back waiting mark part → HasSmallBatches part
part_is_small front middle back waiting mark part fits n =
    ⊎_elim
    (λ (inside : (part.lo ≤ n) × (n ≤ part.hi)).
    let same = same_bytes (filter (has_number n) part.rows) (filter (has_number n) (rows_in middle)) (same_at front middle back waiting mark part fits n inside.0 inside.1) in
    let small = small_between part.lo part.hi n middle fits.between fits.middle_are fits.middle_small in
    omega (arith, same, small))
    (λ (out : (n < part.lo) ⊎ (part.hi < n)). rw (none_of_part part n fits.is out) (omega arith))
    (in_or_out part.lo part.hi n)

pub bytes_of_both : (ps qs : List PartMeaning) → bytes_of (rows_in (ps ++ qs)) ≡ bytes_of (rows_in ps) + bytes_of (rows_in qs)
bytes_of_both ps qs = ap bytes_of (rows_in_append ps qs) ∙ bytes_append (rows_in ps) (rows_in qs)

bytes_one : (p : PartMeaning) → bytes_of (rows_in (p ∷ [])) ≡ bytes_of p.rows
bytes_one p = ap bytes_of (flat_map-cons (λ (q : PartMeaning). q.rows) p [] ∙ append-nil p.rows)

light_kept : (front middle back : List PartMeaning) (part : PartMeaning) → bytes_of part.rows ≡ bytes_of (rows_in middle) → IsLight (front ++ (middle ++ back)) → IsLight (front ++ (part ∷ back))
light_kept front middle back part same light =
    let old = bytes_of_both front (middle ++ back) in
    let old_rest = bytes_of_both middle back in
    let new = bytes_of_both front (part ∷ back) in
    let new_rest = bytes_of_both (part ∷ []) back in
    let one = bytes_one part in
    omega (arith, same, light, old, old_rest, new, new_rest, one)

sealed_then_loose : (front back : List PartMeaning) (part : PartMeaning) → Each IsSealed front → IsSealed part → Each IsLoose back → SealedFirst (front ++ (part ∷ back))
sealed_then_loose [] back part sealed is loose = ((λ other. absurd (true≢false (sym is ∙ other))), all_loose back loose)
  where
    all_loose : (ps : List PartMeaning) → Each IsLoose ps → SealedFirst ps
    all_loose [] loose = tt
    all_loose (p ∷ ps) loose = ((λ _. loose.1), all_loose ps loose.1)
sealed_then_loose (x ∷ xs) back part sealed is loose = ((λ other. absurd (true≢false (sym sealed.0 ∙ other))), sealed_then_loose xs back part sealed.1 is loose)

same_start : (a b mark : ℕ) (parts : List PartMeaning) → Follows a parts mark → Follows b parts mark → a ≡ b
same_start a b mark [] one other = one ∙ sym other
same_start a b mark (p ∷ ps) one other = sym one.0 ∙ other.0

regroup : (flat front rest waiting : List PartMeaning) → ((flat ++ front) ++ rest) ++ waiting ≡ (flat ++ (front ++ rest)) ++ waiting
regroup flat front rest waiting = ap (λ ps. ps ++ waiting) (append_assoc flat front rest)

all_cut : (closed : List (List PartMeaning)) (active stragglers : List PartMeaning) (at count : ℕ)
    → ((flat_map (λ block. block) closed ++ take at active) ++ (take count (drop at active) ++ drop (at + count) active)) ++ stragglers ≡ (flat_map (λ block. block) closed ++ active) ++ stragglers
all_cut closed active stragglers at count =
    let flat = flat_map (λ (block : List PartMeaning). block) closed in
    regroup flat (take at active) (take count (drop at active) ++ drop (at + count) active) stragglers
    ∙ ap (λ ps. (flat ++ ps) ++ stragglers) (cut at count active)

-- The run of a book's active block, and the part that takes its place.
pub run_fits : (closed : List (List PartMeaning)) (active stragglers : List PartMeaning) (mark lo hi at : ℕ) (part : PartMeaning)
    → IsBook (record { closed = closed; active = active; stragglers = stragglers }) mark → IsRunAt active mark lo hi at
    → IsPart part → part.lo ≡ lo → part.hi ≡ hi → HasRowsOf (all_parts (record { closed = closed; active = active; stragglers = stragglers })) part
    → Fits (flat_map (λ block. block) closed ++ take at active) (take (hi - lo + 1) (drop at active)) (drop (at + (hi - lo + 1)) active) stragglers mark part
run_fits closed active stragglers mark lo hi at part book run is is_lo is_hi rows =
    let flat = flat_map (λ (block : List PartMeaning). block) closed in
    let count : ℕ = hi - lo + 1 in
    let ordered = is.ordered in
    let whole : take at active ++ drop at active ≡ active = take-append-drop at active in
    let split : (flat ++ take at active) ++ drop at active ≡ flat ++ active = append_assoc flat (take at active) (drop at active) ∙ ap (λ ps. flat ++ ps) whole in
    let meets = follows_split 1 mark (flat ++ take at active) (drop at active) (omega arith) (rw split (settled_upto book)) in
    let settled_are = each_front IsPart (flat ++ active) stragglers book.well_formed.parts in
    let are : Each IsPart ((flat ++ take at active) ++ drop at active) = rw split settled_are in
    let behind_are = each_back IsPart (flat ++ take at active) (drop at active) are in
    let small : Each HasSmallBatches ((flat ++ take at active) ++ drop at active) = rw split (each_front HasSmallBatches (flat ++ active) stragglers book.well_formed.small) in
    let behind_small = each_back HasSmallBatches (flat ++ take at active) (drop at active) small in
    let both : take count (drop at active) ++ drop count (drop at active) ≡ drop at active = take-append-drop count (drop at active) in
    let cut_are : Each IsPart (take count (drop at active) ++ drop count (drop at active)) = rw both behind_are in
    let cut_small : Each HasSmallBatches (take count (drop at active) ++ drop count (drop at active)) = rw both behind_small in
    let runs = run_parts lo hi mark count (drop at active) run.follows behind_are run.loose (omega (arith, ordered, is_lo, is_hi)) run.bounded in
    let next : drop count (drop at active) ≡ drop (at + count) active = drop-drop count at active in
    record {
      below = meets.mid;
      next = is_lo ∙ same_start lo (meets.mid + 1) mark (drop at active) run.follows meets.back;
      before = meets.front;
      between = rw is_lo (rw is_hi runs.0);
      behind = rw is_hi (rw (sym next) runs.1);
      bounded = rw is_hi run.bounded;
      waits = waits_above book;
      front_are = each_front IsPart (flat ++ take at active) (drop at active) are;
      middle_are = each_front IsPart (take count (drop at active)) (drop count (drop at active)) cut_are;
      back_are = rw (sym next) (each_back IsPart (take count (drop at active)) (drop count (drop at active)) cut_are);
      waiting_are = each_back IsPart (flat ++ active) stragglers book.well_formed.parts;
      front_small = each_front HasSmallBatches (flat ++ take at active) (drop at active) small;
      middle_small = each_front HasSmallBatches (take count (drop at active)) (drop count (drop at active)) cut_small;
      back_small = rw (sym next) (each_back HasSmallBatches (take count (drop at active)) (drop count (drop at active)) cut_small);
      waiting_small = each_back HasSmallBatches (flat ++ active) stragglers book.well_formed.small;
      is = is;
      rows = subst (λ (ps : List PartMeaning). HasRowsOf ps part) (sym (all_cut closed active stragglers at count)) rows;
    }

-- The book with the part in place of the run is in order.
pub replaced_is_book : (closed : List (List PartMeaning)) (active stragglers : List PartMeaning) (mark lo hi at : ℕ) (part : PartMeaning)
    → IsBook (record { closed = closed; active = active; stragglers = stragglers }) mark → IsRunAt active mark lo hi at
    → IsPart part → IsSealed part → part.lo ≡ lo → part.hi ≡ hi → HasRowsOf (all_parts (record { closed = closed; active = active; stragglers = stragglers })) part
    → IsBook (record { closed = closed; active = spliced at (hi - lo + 1) part active; stragglers = stragglers }) mark
replaced_is_book closed active stragglers mark lo hi at part book run is sealed is_lo is_hi rows =
    let flat = flat_map (λ (block : List PartMeaning). block) closed in
    let count : ℕ = hi - lo + 1 in
    let front = flat ++ take at active in
    let middle = take count (drop at active) in
    let back = drop (at + count) active in
    let fits = run_fits closed active stragglers mark lo hi at part book run is is_lo is_hi rows in
    let bytes = same_bytes part.rows (rows_in middle) (same_rows front middle back stragglers mark part fits) in
    let small = part_is_small front middle back stragglers mark part fits in
    let both : middle ++ drop count (drop at active) ≡ drop at active = take-append-drop count (drop at active) in
    let cut_loose : Each IsLoose (middle ++ drop count (drop at active)) = rw both run.loose in
    let back_loose : Each IsLoose back = rw (sym (drop-drop count at active)) (each_back IsLoose middle (drop count (drop at active)) cut_loose) in
    let light : IsLight (take at active ++ (middle ++ back)) = rw (cut at count active) (each_back IsLight closed (active ∷ []) book.well_formed.light).0 in
    book_upto (record { closed = closed; active = spliced at (hi - lo + 1) part active; stragglers = stragglers }) mark
    (rw (sym (append_assoc flat (take at active) (part ∷ back))) (follows_join 1 fits.below mark front (part ∷ back) fits.before (fits.next, is.ordered, fits.behind)))
    (mark_bounded book)
    (waits_above book)
    (rw (sym (append_assoc flat (take at active) (part ∷ back))) (each_append IsPart (front ++ part ∷ back) stragglers (each_append IsPart front (part ∷ back) fits.front_are (is, fits.back_are)) fits.waiting_are))
    (rw (sym (append_assoc flat (take at active) (part ∷ back))) (each_append HasSmallBatches (front ++ part ∷ back) stragglers (each_append HasSmallBatches front (part ∷ back) fits.front_small (small, fits.back_small)) fits.waiting_small))
    (each_append IsLight closed ((take at active ++ part ∷ back) ∷ []) (each_front IsLight closed (active ∷ []) book.well_formed.light) (light_kept (take at active) middle back part bytes light, tt))
    (each_append SealedFirst closed ((take at active ++ part ∷ back) ∷ []) (each_front SealedFirst closed (active ∷ []) book.well_formed.sealed_first) (sealed_then_loose (take at active) back part run.sealed sealed back_loose, tt))
    book.well_formed.used

-- Its history is the same.
pub replaced_history : (closed : List (List PartMeaning)) (active stragglers : List PartMeaning) (mark lo hi at : ℕ) (part : PartMeaning)
    → IsBook (record { closed = closed; active = active; stragglers = stragglers }) mark → IsRunAt active mark lo hi at
    → IsPart part → part.lo ≡ lo → part.hi ≡ hi → HasRowsOf (all_parts (record { closed = closed; active = active; stragglers = stragglers })) part
    → (m : ℕ) → hist (record { closed = closed; active = spliced at (hi - lo + 1) part active; stragglers = stragglers }) m ≡ hist (record { closed = closed; active = active; stragglers = stragglers }) m
replaced_history closed active stragglers mark lo hi at part book run is is_lo is_hi rows m =
    let flat = flat_map (λ (block : List PartMeaning). block) closed in
    let count : ℕ = hi - lo + 1 in
    let front = flat ++ take at active in
    let middle = take count (drop at active) in
    let back = drop (at + count) active in
    let fits = run_fits closed active stragglers mark lo hi at part book run is is_lo is_hi rows in
    batches_same ((flat ++ (take at active ++ part ∷ back)) ++ stragglers) ((flat ++ active) ++ stragglers) 1 m
    (λ n.
    ap (λ ps. batch_at ps n) (sym (regroup flat (take at active) (part ∷ back) stragglers))
    ∙ batch_kept front middle back stragglers mark part fits n
    ∙ ap (λ ps. batch_at ps n) (all_cut closed active stragglers at count))

-- The part has as many rows and bytes as the run.
pub run_rows : (closed : List (List PartMeaning)) (active stragglers : List PartMeaning) (mark lo hi at : ℕ) (part : PartMeaning)
    → IsBook (record { closed = closed; active = active; stragglers = stragglers }) mark → IsRunAt active mark lo hi at
    → IsPart part → part.lo ≡ lo → part.hi ≡ hi → HasRowsOf (all_parts (record { closed = closed; active = active; stragglers = stragglers })) part
    → (length part.rows ≡ length (rows_in (take (hi - lo + 1) (drop at active)))) × (bytes_of part.rows ≡ bytes_of (rows_in (take (hi - lo + 1) (drop at active))))
run_rows closed active stragglers mark lo hi at part book run is is_lo is_hi rows =
    let flat = flat_map (λ (block : List PartMeaning). block) closed in
    let count : ℕ = hi - lo + 1 in
    let middle = take count (drop at active) in
    let fits = run_fits closed active stragglers mark lo hi at part book run is is_lo is_hi rows in
    let same = same_rows (flat ++ take at active) middle (drop (at + count) active) stragglers mark part fits in
    (same_count part.rows (rows_in middle) same, same_bytes part.rows (rows_in middle) same)

ends_all : (first mid lo : ℕ) (parts : List PartMeaning) → Follows first parts mid → mid < lo → filter (ends_below lo) parts ≡ parts
ends_all first mid lo [] follows under = refl
ends_all first mid lo (p ∷ ps) follows under =
    let upto = follows_upto (p.hi + 1) mid ps follows.2 in
    if_true (nat_lt p.hi lo) (p ∷ filter (ends_below lo) ps) (filter (ends_below lo) ps) (grind (arith, upto, under))
    ∙ ap (λ qs. p ∷ qs) (ends_all (p.hi + 1) mid lo ps follows.2 under)

ends_none : (first mark lo : ℕ) (parts : List PartMeaning) → Follows first parts mark → lo ≤ first → filter (ends_below lo) parts ≡ []
ends_none first mark lo [] follows over = refl
ends_none first mark lo (p ∷ ps) follows over =
    if_false (nat_lt p.hi lo) (p ∷ filter (ends_below lo) ps) (filter (ends_below lo) ps) (grind (arith, follows.0, follows.1, over))
    ∙ ends_none (p.hi + 1) mark lo ps follows.2 (omega (arith, follows.0, follows.1, over))

above_all : (first mark hi : ℕ) (parts : List PartMeaning) → Follows first parts mark → hi < first → filter (begins_above hi) parts ≡ parts
above_all first mark hi [] follows over = refl
above_all first mark hi (p ∷ ps) follows over =
    if_true (nat_lt hi p.lo) (p ∷ filter (begins_above hi) ps) (filter (begins_above hi) ps) (grind (arith, follows.0, over))
    ∙ ap (λ qs. p ∷ qs) (above_all (p.hi + 1) mark hi ps follows.2 (omega (arith, follows.0, follows.1, over)))

above_none : (first mid hi : ℕ) (parts : List PartMeaning) → Follows first parts mid → mid ≤ hi → filter (begins_above hi) parts ≡ []
above_none first mid hi [] follows under = refl
above_none first mid hi (p ∷ ps) follows under =
    let upto = follows_upto (p.hi + 1) mid ps follows.2 in
    if_false (nat_lt hi p.lo) (p ∷ filter (begins_above hi) ps) (filter (begins_above hi) ps) (grind (arith, upto, follows.1, under))
    ∙ above_none (p.hi + 1) mid hi ps follows.2 under

-- The parts below the range are those before the run, and the parts above it those behind.
pub put_over_is_spliced : (active : List PartMeaning) (mark lo hi at : ℕ) (part : PartMeaning) → IsInOrder active mark → IsRunAt active mark lo hi at
    → lo ≤ hi → part.lo ≡ lo → part.hi ≡ hi → spliced at (hi - lo + 1) part active ≡ put_over part active
put_over_is_spliced active mark lo hi at part order run ordered is_lo is_hi =
    let count : ℕ = hi - lo + 1 in
    let front = take at active in
    let behind = drop at active in
    let whole : front ++ behind ≡ active = take-append-drop at active in
    let meets = follows_split order.first mark front behind order.counted (rw whole order.follows) in
    let next : lo ≡ meets.mid + 1 = same_start lo (meets.mid + 1) mark behind run.follows meets.back in
    let behind_are = each_back IsPart front behind (rw whole order.are) in
    let runs = run_parts lo hi mark count behind run.follows behind_are run.loose (omega (arith, ordered)) run.bounded in
    let middle = take count behind in
    let back = drop count behind in
    let both : middle ++ back ≡ behind = take-append-drop count behind in
    let below : filter (ends_below part.lo) active ≡ front =
    ap (filter (ends_below part.lo)) (sym whole)
    ∙ filter-append (ends_below part.lo) front behind
    ∙ ap (λ ps. ps ++ filter (ends_below part.lo) behind) (ends_all order.first meets.mid part.lo front meets.front (omega (arith, next, is_lo)))
    ∙ ap (λ ps. front ++ ps) (ends_none lo mark part.lo behind run.follows (omega (arith, is_lo)))
    ∙ append-nil front in
    let above_behind : filter (begins_above part.hi) behind ≡ back =
    ap (filter (begins_above part.hi)) (sym both)
    ∙ filter-append (begins_above part.hi) middle back
    ∙ ap (λ ps. ps ++ filter (begins_above part.hi) back) (above_none lo hi part.hi middle runs.0 (omega (arith, is_hi)))
    ∙ above_all (hi + 1) mark part.hi back runs.1 (omega (arith, is_hi)) in
    let above : filter (begins_above part.hi) active ≡ drop (at + count) active =
    ap (filter (begins_above part.hi)) (sym whole)
    ∙ filter-append (begins_above part.hi) front behind
    ∙ ap (λ ps. ps ++ filter (begins_above part.hi) behind) (above_none order.first meets.mid part.hi front meets.front (omega (arith, next, ordered, is_hi)))
    ∙ above_behind
    ∙ drop-drop count at active in
    ap (λ ps. ps ++ part ∷ drop (at + count) active) (sym below) ∙ ap (λ ps. filter (ends_below part.lo) active ++ part ∷ ps) (sym above)
