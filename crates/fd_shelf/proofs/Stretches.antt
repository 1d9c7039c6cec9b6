-- Parts of the blocks that follow one another: their range and rows, and what one part in their place has.
use Rattle.std.specs.Prelude.{◌≡◌, ◌≢◌, ◌⊎◌, ℕ, zero, suc, ◌+◌, ◌≤◌, ◌<◌, ◌^◌, List, [], ◌∷◌, ◌++◌, filter, flat_map, All, IsPermutation, Some, slice_get, unwrap_or, refl}
use Rattle.std.specs.Cmp.{IsTotalOrder}
use Rattle.std.specs.declared.cmp.Ordering.TheVariants.{Equal}
use Rattle.std.proofs.Common.{arith, ap, sym, ◌∙◌, subst, inl, inr, ⊎_elim}
use Rattle.std.proofs.lemmas.List.{append-nil, append_assoc}
use Rattle.std.proofs.lemmas.List.Concat.{flat_map-cons}
use Rattle.std.proofs.lemmas.List.Elements.{All-nil}
use Rattle.std.proofs.lemmas.Option.{none-some}
use Rattle.fd_kinds.specs.declared.limits.TheConstants.{BLOCK_BYTES_LIMIT}
use Rattle.fd_kinds.specs.declared.row.Row.{Row}
use Rattle.fd_kinds.specs.RowOrder.{row_cmp}
use Rattle.fd_kinds.specs.Parts.{PartMeaning, IsPart, IsWithin, rows_of}
use Rattle.fd_shelf.specs.Books.{Book, Each, Follows, IsLight, IsUsed, has_number, all_parts, settled_parts, rows_in, bytes_of}
use Rattle.fd_shelf.specs.Marks.{IsBook}
use Rattle.fd_shelf.specs.Histories.{in_row_order}
use Rattle.fd_shelf.specs.Steps.{lowest, highest, last_hi}
use Rattle.fd_shelf.specs.Runs.{IsNumbered, AreSealable}
use Rattle.fd_shelf.specs.Replacement.{HasRowsOf}
use Rattle.fd_shelf.proofs.BookEnds.{ends_at, settled_upto, mark_bounded, waits_above}
use Rattle.fd_shelf.proofs.BookLaws.{each_front, each_back}
use Rattle.fd_shelf.proofs.HistoryLaws.{rows_of_number, split_rows, first_rows}
use Rattle.fd_shelf.proofs.ReplacementLaws.{parts_rows, only_middle, none_in_front, none_in_back, none_waiting, all_within}
use Rattle.fd_shelf.proofs.Runs.{follows_split, follows_upto}
use Rattle.fd_shelf.proofs.RowPermutations.{same_in_any_order}
use Rattle.fd_shelf.proofs.Spans.{each_at}

-- the range of parts that follow one another
pub record IsRange (first last : ℕ) (parts : List PartMeaning) : Type 0 where
  pub begins : lowest parts ≡ first
  pub ends : highest parts ≡ last
  pub ordered : first ≤ last

pub range_of : (first last : ℕ) (parts : List PartMeaning) → Follows first parts last → parts ≢ [] → IsRange first last parts
range_of first last [] follows some = absurd (some refl)
range_of first last (p ∷ ps) follows some =
    let upto = follows_upto (p.hi + 1) last ps follows.2 in
    record {
      begins = follows.0;
      ends = ends_at (p.hi + 1) p.hi last ps follows.2 refl;
      ordered = omega (arith, upto, follows.0, follows.1);
    }

pub range_within : (first last : ℕ) (parts : List PartMeaning) → Follows first parts last → Each IsPart parts → All (IsWithin (lowest parts) (highest parts)) (rows_in parts)
range_within first last [] follows are = All-nil (IsWithin 0 0)
range_within first last (p ∷ ps) follows are =
    let ends : last_hi p.hi ps ≡ last = ends_at (p.hi + 1) p.hi last ps follows.2 refl in
    subst (λ (hi : ℕ). All (IsWithin p.lo hi) (rows_in (p ∷ ps))) (sym ends) (all_within p.lo last (p ∷ ps) first (omega (arith, follows.0)) follows are)

in_range : (first last n : ℕ) (parts : List PartMeaning) → Follows first parts last → lowest parts ≤ n → n ≤ highest parts → ((n ≡ 0) × (parts ≡ [])) ⊎ ((first ≤ n) × (n ≤ last))
in_range first last n [] follows low high = inl (omega (arith, high), refl)
in_range first last n (p ∷ ps) follows low high =
    let ends : last_hi p.hi ps ≡ last = ends_at (p.hi + 1) p.hi last ps follows.2 refl in
    inr (omega (arith, follows.0, low), omega (arith, ends, high))

-- the parts before them, and those behind
pub record IsStretch (book : Book) (mark : ℕ) (parts : List PartMeaning) : Type 0 where
  pub front : List PartMeaning
  pub back : List PartMeaning
  pub below : ℕ
  pub last : ℕ
  pub whole : settled_parts book ≡ front ++ (parts ++ back)
  pub before : Follows 1 front below
  pub between : Follows (below + 1) parts last
  pub behind : Follows (last + 1) back mark

pub stretch_are : (book : Book) (mark : ℕ) (parts : List PartMeaning) → IsBook book mark → IsStretch book mark parts → Each IsPart parts
stretch_are book mark parts order is =
    let settled_are : Each IsPart (is.front ++ (parts ++ is.back)) =
    subst (λ (ps : List PartMeaning). Each IsPart ps) is.whole (each_front IsPart (settled_parts book) book.stragglers order.well_formed.parts) in
    each_front IsPart parts is.back (each_back IsPart is.front (parts ++ is.back) settled_are)

-- The range of some parts lies up to the mark.
pub stretch_range : (book : Book) (mark : ℕ) (parts : List PartMeaning) → IsStretch book mark parts → parts ≢ [] → (0 < lowest parts) × (lowest parts ≤ highest parts) × (highest parts ≤ mark)
stretch_range book mark parts is some =
    let range = range_of (is.below + 1) is.last parts is.between some in
    let upto = follows_upto (is.last + 1) mark is.back is.behind in
    (omega (arith, range.begins), omega (arith, range.begins, range.ends, range.ordered), omega (arith, range.ends, upto))

pub stretch_within : (book : Book) (mark : ℕ) (parts : List PartMeaning) → IsBook book mark → IsStretch book mark parts → All (IsWithin (lowest parts) (highest parts)) (rows_in parts)
stretch_within book mark parts order is = range_within (is.below + 1) is.last parts is.between (stretch_are book mark parts order is)

numbered_upto : (first last : ℕ) (parts : List PartMeaning) → last < 2 ^ 63 → Follows first parts last → Each IsNumbered parts
numbered_upto first last [] bounded follows = tt
numbered_upto first last (p ∷ ps) bounded follows =
    let rest = follows_upto (p.hi + 1) last ps follows.2 in (omega (arith, rest, bounded), numbered_upto (p.hi + 1) last ps bounded follows.2)

-- Some parts with few bytes can be sealed.
pub stretch_sealable : (book : Book) (mark : ℕ) (parts : List PartMeaning) → IsBook book mark → IsStretch book mark parts → parts ≢ [] → bytes_of (rows_in parts) < BLOCK_BYTES_LIMIT → AreSealable parts
stretch_sealable book mark parts order is some light =
    let range = stretch_range book mark parts is some in
    let upto = follows_upto (is.last + 1) mark is.back is.behind in
    let bounded = (mark_bounded order) in
    record {
      numbered = numbered_upto (is.below + 1) is.last parts (omega (arith, upto, bounded)) is.between;
      range = range.1;
      below = omega (arith, range.2, bounded);
      within = stretch_within book mark parts order is;
      light = light;
    }

-- no part has rows of the number 0
none_at_zero : (book : Book) (mark n : ℕ) → IsBook book mark → n ≡ 0 → rows_of_number (all_parts book) n ≡ []
none_at_zero book mark n order is =
    let settled = settled_parts book in
    split_rows n settled book.stragglers
    ∙ ap (λ rows. rows ++ rows_of_number book.stragglers n) (none_in_back 1 mark n settled (settled_upto order) (each_front IsPart settled book.stragglers order.well_formed.parts) (omega (arith, is)))
    ∙ none_waiting mark n book.stragglers (waits_above order) (each_back IsPart settled book.stragglers order.well_formed.parts) (omega (arith, is))

-- the rows of a number of their range are in these parts
rows_inside : (book : Book) (mark n : ℕ) (parts : List PartMeaning) → IsBook book mark → (is : IsStretch book mark parts) → is.below + 1 ≤ n → n ≤ is.last
    → rows_of_number (all_parts book) n ≡ rows_of_number parts n
rows_inside book mark n parts order is low high =
    let waiting = book.stragglers in
    let upto = follows_upto (is.last + 1) mark is.back is.behind in
    let same : all_parts book ≡ (is.front ++ (parts ++ is.back)) ++ waiting = ap (λ ps. ps ++ waiting) is.whole in
    let are : Each IsPart ((is.front ++ (parts ++ is.back)) ++ waiting) = subst (λ (ps : List PartMeaning). Each IsPart ps) same order.well_formed.parts in
    let settled_are = each_front IsPart (is.front ++ (parts ++ is.back)) waiting are in
    let front_are = each_front IsPart is.front (parts ++ is.back) settled_are in
    let back_are = each_back IsPart parts is.back (each_back IsPart is.front (parts ++ is.back) settled_are) in
    ap (λ ps. rows_of_number ps n) same
    ∙ parts_rows n is.front parts is.back waiting
    ∙ only_middle (rows_of_number is.front n) (rows_of_number parts n) (rows_of_number is.back n) (rows_of_number waiting n)
    (none_in_front 1 is.below n is.front is.before front_are (omega (arith, low)))
    (none_in_back (is.last + 1) mark n is.back is.behind back_are (omega (arith, high)))
    (none_waiting mark n waiting (waits_above order) (each_back IsPart (is.front ++ (parts ++ is.back)) waiting are) (omega (arith, high, upto)))

rows_of_range : (book : Book) (mark n : ℕ) (parts : List PartMeaning) → IsBook book mark → IsStretch book mark parts → lowest parts ≤ n → n ≤ highest parts
    → rows_of_number (all_parts book) n ≡ rows_of_number parts n
rows_of_range book mark n parts order is low high =
    ⊎_elim
    (λ (none : (n ≡ 0) × (parts ≡ [])). none_at_zero book mark n order none.0 ∙ sym (ap (λ ps. rows_of_number ps n) none.1))
    (λ (inside : (is.below + 1 ≤ n) × (n ≤ is.last)). rows_inside book mark n parts order is inside.0 inside.1)
    (in_range (is.below + 1) is.last n parts is.between low high)

-- A part of that range with the rows of these parts has the rows that all parts have there.
pub stretch_rows : (book : Book) (mark : ℕ) (parts : List PartMeaning) → IsTotalOrder row_cmp → ((a b : Row) → row_cmp a b ≡ Equal → a ≡ b) → IsBook book mark → IsStretch book mark parts
    → (part : PartMeaning) → part.lo ≡ lowest parts → part.hi ≡ highest parts → IsPermutation (rows_in parts) part.rows → HasRowsOf (all_parts book) part
stretch_rows book mark parts total exact order is part is_lo is_hi same n low high =
    ap (λ rows. in_row_order (rows_of rows)) (first_rows n part [] ∙ append-nil (filter (has_number n) part.rows))
    ∙ sym (same_in_any_order total exact (rows_in parts) part.rows n same)
    ∙ ap (λ rows. in_row_order (rows_of rows)) (sym (rows_of_range book mark n parts order is (omega (arith, is_lo, low)) (omega (arith, is_hi, high))))

-- a block among the others
record IsAmong (closed : List (List PartMeaning)) (active parts : List PartMeaning) : Type 0 where
  front : List PartMeaning
  back : List PartMeaning
  whole : flat_map (λ block. block) closed ++ active ≡ front ++ (parts ++ back)

among : (closed : List (List PartMeaning)) (active : List PartMeaning) (block : ℕ) (parts : List PartMeaning) → slice_get closed block ≡ Some parts → IsAmong closed active parts
among [] active block parts here = absurd (none-some parts here)
among (b ∷ bs) active zero parts here =
    let flat = flat_map (λ (block : List PartMeaning). block) bs in
    let same : b ≡ parts = ap (λ o. unwrap_or o b) here in
    record {
      front = [];
      back = flat ++ active;
      whole =
          ap (λ ps. ps ++ active) (flat_map-cons (λ (block : List PartMeaning). block) b bs)
          ∙ append_assoc b flat active
          ∙ ap (λ ps. ps ++ (flat ++ active)) same;
    }
among (b ∷ bs) active (suc block) parts here =
    let flat = flat_map (λ (block : List PartMeaning). block) bs in
    let later = among bs active block parts here in
    record {
      front = b ++ later.front;
      back = later.back;
      whole =
          ap (λ ps. ps ++ active) (flat_map-cons (λ (block : List PartMeaning). block) b bs)
          ∙ append_assoc b flat active
          ∙ ap (λ ps. b ++ ps) later.whole
          ∙ sym (append_assoc b later.front (parts ++ later.back));
    }

-- A closed block is such a stretch, has a number, and has few bytes.
pub closed_stretch : (book : Book) (mark block : ℕ) (parts : List PartMeaning) → IsBook book mark → slice_get book.closed block ≡ Some parts → IsStretch book mark parts
closed_stretch book mark block parts order here =
    let is = among book.closed book.active block parts here in
    let one = follows_split 1 mark is.front (parts ++ is.back) (omega arith) (subst (λ (ps : List PartMeaning). Follows 1 ps mark) is.whole (settled_upto order)) in
    let two = follows_split (one.mid + 1) mark parts is.back (omega arith) one.back in
    record {
      front = is.front;
      back = is.back;
      below = one.mid;
      last = two.mid;
      whole = is.whole;
      before = one.front;
      between = two.front;
      behind = two.back;
    }

some_of_used : (parts : List PartMeaning) → IsUsed parts → parts ≢ []
some_of_used parts used none = subst IsUsed none used

pub closed_some : (book : Book) (mark block : ℕ) (parts : List PartMeaning) → IsBook book mark → slice_get book.closed block ≡ Some parts → parts ≢ []
closed_some book mark block parts order here = some_of_used parts (each_at IsUsed book.closed block parts order.well_formed.used here)

pub closed_light : (book : Book) (mark block : ℕ) (parts : List PartMeaning) → IsBook book mark → slice_get book.closed block ≡ Some parts → bytes_of (rows_in parts) < BLOCK_BYTES_LIMIT
closed_light book mark block parts order here = each_at IsLight book.closed block parts (each_front IsLight book.closed (book.active ∷ []) order.well_formed.light) here

pub closed_sealable : (book : Book) (mark block : ℕ) (parts : List PartMeaning) → IsBook book mark → slice_get book.closed block ≡ Some parts → AreSealable parts
closed_sealable book mark block parts order here =
    stretch_sealable book mark parts order (closed_stretch book mark block parts order here) (closed_some book mark block parts order here) (closed_light book mark block parts order here)

-- The active block is such a stretch too, and has few bytes.
pub active_stretch : (book : Book) (mark : ℕ) → IsBook book mark → IsStretch book mark book.active
active_stretch book mark order =
    let flat = flat_map (λ (block : List PartMeaning). block) book.closed in
    let meets = follows_split 1 mark flat book.active (omega arith) (settled_upto order) in
    record {
      front = flat;
      back = [];
      below = meets.mid;
      last = mark;
      whole = ap (λ parts. flat ++ parts) (sym (append-nil book.active));
      before = meets.front;
      between = meets.back;
      behind = refl;
    }

pub active_sealable : (book : Book) (mark : ℕ) → IsBook book mark → book.active ≢ [] → AreSealable book.active
active_sealable book mark order some =
    stretch_sealable book mark book.active order (active_stretch book mark order) some (each_back IsLight book.closed (book.active ∷ []) order.well_formed.light).0
