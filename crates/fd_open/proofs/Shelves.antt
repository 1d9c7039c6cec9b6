-- Batches on a shelf.
use Rattle.std.proofs.Common.{◌≡◌, ℕ, ◌+◌, ◌<◌, ◌^◌, true, false, not, eqb, List, [], ◌∷◌, ◌++◌, length, refl, sym, ◌∙◌, ap, subst, arith, append_assoc, eq-eqb}
use Rattle.std.specs.List.{All, filter}
use Rattle.std.specs.Prelude.{IsSorted}
use Rattle.std.proofs.lemmas.List.{append-nil, length-map}
use Rattle.std.proofs.lemmas.List.Elements.{All-head, All-tail}
use Rattle.std.proofs.lemmas.List.Sums.{sum_by-cons, sum_by-append}
use Rattle.std.proofs.lemmas.List.Filters.{sum_by-filter_both}
use Rattle.std.proofs.lemmas.List.Concat.{flat_map-append}
use Rattle.std.proofs.lemmas.Bool.{cond-true}
use Rattle.fd_kinds.specs.declared.row.Row.{Row}
use Rattle.fd_kinds.specs.declared.row.Numbered.{Numbered}
use Rattle.fd_kinds.specs.declared.batch.NumberedBatch.{NumberedBatch}
use Rattle.fd_kinds.specs.declared.limits.TheConstants.{BLOCK_BYTES_LIMIT}
use Rattle.fd_kinds.specs.History.{History, IsSmall}
use Rattle.fd_kinds.specs.Parts.{PartMeaning, loose_part, with_number, rows_of}
use Rattle.fd_kinds.specs.RowOrder.{row_cmp}
use Rattle.fd_kinds.specs.RowSize.{row_size}
use Rattle.fd_shelf.specs.Books.{Book, Shelved, HasSmallBatches, IsUsed, has_number, bytes_of, rows_in as rows_of_parts}
use Rattle.fd_shelf.specs.Histories.{hist, batch_at, in_row_order}
use Rattle.fd_wal.specs.Frames.{rows_size, batches_size, IsBatch}
use Rattle.fd_wal.specs.Runs.{rows_in, AreNumberedFrom}
use Rattle.fd_open.specs.Shelving.{parts_from, Shelves}

-- ---- the part of one batch

all_numbered : (n : ℕ) (rows : List Row) → filter (has_number n) (with_number n rows) ≡ with_number n rows
all_numbered n [] = refl
all_numbered n (r ∷ rows) =
    let row : Numbered = record { number = n; row = r } in
    cond-true (eqb n n) (row ∷ filter (has_number n) (with_number n rows)) (filter (has_number n) (with_number n rows)) (eq-eqb n n refl) ∙ ap (λ (l : List Numbered). row ∷ l) (all_numbered n rows)

rows_numbered : (n : ℕ) (rows : List Row) → rows_of (with_number n rows) ≡ rows
rows_numbered n [] = refl
rows_numbered n (r ∷ rows) = ap (λ (l : List Row). r ∷ l) (rows_numbered n rows)

pub bytes_numbered : (n : ℕ) (rows : List Row) → bytes_of (with_number n rows) ≡ rows_size rows
bytes_numbered n [] = refl
bytes_numbered n (r ∷ rows) =
    sum_by-cons (λ (x : Numbered). row_size x.row) (record { number = n; row = r }) (with_number n rows)
    ∙ ap (λ (s : ℕ). row_size r + s) (bytes_numbered n rows)
    ∙ sym (sum_by-cons row_size r rows)

-- a batch gets its number
pub numbered_part : (n : ℕ) (rows : List Row) (old new : PartMeaning) → old ≡ loose_part 0 rows → new ≡ loose_part n (rows_of old.rows) → new ≡ loose_part n rows
numbered_part n rows old new fresh is = is ∙ ap (λ (p : PartMeaning). loose_part n (rows_of p.rows)) fresh ∙ ap (loose_part n) (rows_numbered 0 rows)

pub small_part : (n : ℕ) (rows : List Row) → IsSmall rows → HasSmallBatches (loose_part n rows)
small_part n rows small number =
    let both = sum_by-filter_both (has_number number) (λ (x : Numbered). not (has_number number x)) (λ x. refl) (λ (x : Numbered). row_size x.row) (with_number n rows) in
    let all = bytes_numbered n rows in
    omega (arith, both, all, small)

abbrev pub PartLaw : Type 0
PartLaw = (part : PartMeaning) (number : ℕ) → batch_at (part ∷ []) number ≡ in_row_order (rows_of (filter (has_number number) part.rows))

abbrev pub SortedLaw : Type 0
SortedLaw = (rows : List Row) → IsSorted row_cmp rows → in_row_order rows ≡ rows

-- its batch are its rows
pub batch_of_part : PartLaw → SortedLaw → (n : ℕ) (rows : List Row) → IsSorted row_cmp rows → batch_at (loose_part n rows ∷ []) n ≡ rows
batch_of_part part_law sorted_law n rows sorted =
    part_law (loose_part n rows) n ∙ ap (λ (l : List Numbered). in_row_order (rows_of l)) (all_numbered n rows) ∙ ap in_row_order (rows_numbered n rows) ∙ sorted_law rows sorted

-- ---- books

pub book_is : (book : Book) (closed : List (List PartMeaning)) (active stragglers : List PartMeaning) → book.closed ≡ closed → book.active ≡ active → book.stragglers ≡ stragglers → book ≡ record { closed = closed; active = active; stragglers = stragglers }
book_is book closed active stragglers one two three =
    ap (λ (l : List (List PartMeaning)). record { closed = l; active = book.active; stragglers = book.stragglers }) one
    ∙ ap (λ (l : List PartMeaning). record { closed = closed; active = l; stragglers = book.stragglers }) two
    ∙ ap (λ (l : List PartMeaning). record { closed = closed; active = active; stragglers = l }) three

-- ---- batch after batch

-- The batches so far are on the shelf, and the rest follows.
pub record Adding (initial : Shelved) (batches : List NumberedBatch) (now : Shelved) (rest : List NumberedBatch) : Type 0 where
  pub closed : now.book.closed ≡ initial.book.closed
  pub alone : now.book.stragglers ≡ []
  pub parts : now.book.active ++ parts_from (now.mark + 1) (rows_in rest) ≡ parts_from (initial.mark + 1) (rows_in batches)
  pub mark : now.mark + length rest ≡ initial.mark + length batches
  pub history : hist now.book now.mark ++ rows_in rest ≡ hist initial.book initial.mark ++ rows_in batches
  pub numbered : AreNumberedFrom (now.mark + 1) rest
  pub each : All IsBatch (rows_in rest)
  pub light : bytes_of (rows_of_parts now.book.active) + batches_size (rows_in rest) < BLOCK_BYTES_LIMIT

pub adding_begins : (shelf : Shelved) (batches : List NumberedBatch) → shelf.book.active ≡ [] → shelf.book.stragglers ≡ [] → AreNumberedFrom (shelf.mark + 1) batches → All IsBatch (rows_in batches) → batches_size (rows_in batches) < BLOCK_BYTES_LIMIT
    → Adding shelf batches shelf batches
adding_begins shelf batches empty alone numbered each light = record {
  closed = refl;
  alone = alone;
  parts = ap (λ (l : List PartMeaning). l ++ parts_from (shelf.mark + 1) (rows_in batches)) empty;
  mark = refl;
  history = refl;
  numbered = numbered;
  each = each;
  light =
      let none : bytes_of (rows_of_parts shelf.book.active) ≡ 0 = ap (λ (l : List PartMeaning). bytes_of (rows_of_parts l)) empty in
      omega (arith, none, light);
}

module _ (initial : Shelved) (batches : List NumberedBatch) (now : Shelved) (batch : NumberedBatch) (others : List NumberedBatch) (so_far : Adding initial batches now (batch ∷ others)) where
  batch_is : IsBatch batch.batch.rows
  batch_is = All-head IsBatch batch.batch.rows (rows_in others) so_far.each

  sizes : batches_size (rows_in (batch ∷ others)) ≡ rows_size batch.batch.rows + batches_size (rows_in others)
  sizes = sum_by-cons rows_size batch.batch.rows (rows_in others)

  pub next_small : IsSmall batch.batch.rows
  next_small = batch_is.ordered.small

  pub next_number : batch.number ≡ now.mark + 1
  next_number = so_far.numbered.0

  pub next_below : initial.mark + length batches < 2 ^ 63 → batch.number < 2 ^ 63
  next_below below =
      let mark = so_far.mark in
      let number = so_far.numbered.0 in
      omega (arith, mark, number, below)

  pub next_light : bytes_of (rows_of_parts now.book.active) + bytes_of (loose_part batch.number batch.batch.rows).rows < BLOCK_BYTES_LIMIT
  next_light =
      let light = so_far.light in
      let own = bytes_numbered batch.number batch.batch.rows in
      omega (arith, light, own, sizes)

  module _ (new : Shelved) (closed : new.book.closed ≡ now.book.closed) (alone : new.book.stragglers ≡ []) (active : new.book.active ≡ now.book.active ++ loose_part batch.number batch.batch.rows ∷ [])
      (mark : new.mark ≡ now.mark + 1) (history : hist new.book new.mark ≡ hist now.book now.mark ++ batch.batch.rows ∷ []) where
    abbrev part : PartMeaning
    part = loose_part batch.number batch.batch.rows

    abbrev behind : List PartMeaning
    behind = parts_from (new.mark + 1) (rows_in others)

    next_parts : new.book.active ++ behind ≡ parts_from (initial.mark + 1) (rows_in batches)
    next_parts =
        ap (λ (l : List PartMeaning). l ++ behind) active
        ∙ append_assoc now.book.active (part ∷ []) behind
        ∙ ap (λ (n : ℕ). now.book.active ++ loose_part n batch.batch.rows ∷ behind) so_far.numbered.0
        ∙ ap (λ (n : ℕ). now.book.active ++ loose_part (now.mark + 1) batch.batch.rows ∷ parts_from (n + 1) (rows_in others)) mark
        ∙ so_far.parts

    next_bytes : bytes_of (rows_of_parts new.book.active) ≡ bytes_of (rows_of_parts now.book.active) + rows_size batch.batch.rows
    next_bytes =
        ap (λ (l : List PartMeaning). bytes_of (rows_of_parts l)) active
        ∙ ap bytes_of (flat_map-append (λ (p : PartMeaning). p.rows) now.book.active (part ∷ []))
        ∙ sum_by-append (λ (x : Numbered). row_size x.row) (rows_of_parts now.book.active) (rows_of_parts (part ∷ []))
        ∙ ap (λ (l : List Numbered). bytes_of (rows_of_parts now.book.active) + bytes_of l) (append-nil part.rows)
        ∙ ap (λ (n : ℕ). bytes_of (rows_of_parts now.book.active) + n) (bytes_numbered batch.number batch.batch.rows)

    pub adding_more : Adding initial batches new others
    adding_more = record {
      closed = closed ∙ so_far.closed;
      alone = alone;
      parts = next_parts;
      mark = (let was = so_far.mark in omega (arith, was, mark));
      history =
          ap (λ (l : History). l ++ rows_in others) history
          ∙ append_assoc (hist now.book now.mark) (batch.batch.rows ∷ []) (rows_in others)
          ∙ so_far.history;
      numbered = subst (λ (n : ℕ). AreNumberedFrom (n + 1) others) (sym mark) so_far.numbered.1;
      each = All-tail IsBatch batch.batch.rows (rows_in others) so_far.each;
      light = (let was = so_far.light in omega (arith, was, next_bytes, sizes));
    }

pub adding_ends : (initial : Shelved) (batches : List NumberedBatch) (now : Shelved) → initial.book.stragglers ≡ [] → Adding initial batches now [] → Shelves (rows_in batches) false initial now
adding_ends initial batches now alone so_far = record {
  book =
      book_is now.book initial.book.closed (parts_from (initial.mark + 1) (rows_in batches)) initial.book.stragglers so_far.closed
      (sym (append-nil now.book.active) ∙ so_far.parts)
      (so_far.alone ∙ sym alone);
  mark = (let was = so_far.mark in let count : length (rows_in batches) ≡ length batches = length-map batches _ in omega (arith, was, count));
  history = sym (append-nil (hist now.book now.mark)) ∙ so_far.history;
}

-- the block is closed
pub shelves_rotated : (batches : History) (old mid new : Shelved) → Shelves batches false old mid → new.book ≡ record { closed = mid.book.closed ++ mid.book.active ∷ []; active = []; stragglers = mid.book.stragglers } → new.mark ≡ mid.mark
    → hist new.book mid.mark ≡ hist mid.book mid.mark → Shelves batches true old new
shelves_rotated batches old mid new was book mark history = record {
  book = book ∙ ap (λ (b : Book). record { closed = b.closed ++ b.active ∷ []; active = []; stragglers = b.stragglers }) was.book;
  mark = mark ∙ was.mark;
  history = ap (hist new.book) mark ∙ history ∙ was.history;
}

pub used_parts : (first : ℕ) (batches : History) → 0 < length batches → IsUsed (parts_from first batches)
used_parts first [] some = absurd (omega (arith, some))
used_parts first (rows ∷ batches) some = tt
