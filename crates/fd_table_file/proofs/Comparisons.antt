-- Cells that are compared with those of a table, one after the other.
use Rattle.std.proofs.Common.{◌≡◌, ◌≢◌, ℕ, ◌+◌, ◌<◌, ◌≤◌, Bool, ℤ, pos, List, [], ◌∷◌, ◌++◌, length, take, map, get_or, refl, sym, ap, ◌∙◌, subst, arith, rules}
use Rattle.std.specs.Prelude.{Option, Some, None, Decides, slice_get, option_map, unwrap_or}
use Rattle.std.proofs.lemmas.Option.{slice_get-map, slice_get-get_or, slice_get_within, get_or_from_slice_get}
use Rattle.std.proofs.lemmas.List.{take_more, take_all, length-map}
use Rattle.fd_kinds.specs.declared.row.Numbered.{Numbered}
use Rattle.fd_column.specs.Cells.{Column, columns_of, absent, text, whole, text_in, whole_in, cell_at}
use Rattle.fd_column.specs.Cells.{Cell as TableCell}
use Rattle.fd_pages.specs.declared.cell.Cell.{Cell}
use Rattle.fd_pages.specs.declared.cell.Cell.TheVariants.{Absent, Whole, Bytes}
use Rattle.fd_table_file.specs.Columns.{file_cell, cells_of, column_at, column_count}
use Rattle.fd_table_file.proofs.ColumnLaws.{cell_there, column_there, cells_length, names_length}

-- ---- one cell

none_in : (cell : TableCell) → file_cell cell ≡ Absent → (text_in cell ≡ None) × (whole_in cell ≡ None)
none_in absent e = (refl, refl)
none_in (text b) e = absurd (search (rules, e))
none_in (whole n) e = absurd (search (rules, e))

none_there : (cell : TableCell) → (text_in cell ≡ None) × (whole_in cell ≡ None) → file_cell cell ≡ Absent
none_there absent e = refl
none_there (text b) e = absurd (search (rules, e.0))
none_there (whole n) e = absurd (search (rules, e.1))

abbrev whole_from : Cell → ℤ
whole_from Absent = pos 0
whole_from (Whole n) = n
whole_from (Bytes b) = pos 0

abbrev bytes_from : Cell → List ℕ
bytes_from Absent = []
bytes_from (Whole n) = []
bytes_from (Bytes b) = b

number_in : (cell : TableCell) (n : ℤ) → file_cell cell ≡ Whole n → whole_in cell ≡ Some n
number_in absent n e = absurd (search (rules, e))
number_in (text b) n e = absurd (search (rules, e))
number_in (whole m) n e = ap (λ c. Some (whole_from c)) e

number_there : (cell : TableCell) (n : ℤ) → whole_in cell ≡ Some n → file_cell cell ≡ Whole n
number_there absent n e = absurd (search (rules, e))
number_there (text b) n e = absurd (search (rules, e))
number_there (whole m) n e = ap (λ o. Whole (unwrap_or o (pos 0))) e

text_is : (cell : TableCell) (bytes : List ℕ) → file_cell cell ≡ Bytes bytes → text_in cell ≡ Some bytes
text_is absent bytes e = absurd (search (rules, e))
text_is (text b) bytes e = ap (λ c. Some (bytes_from c)) e
text_is (whole m) bytes e = absurd (search (rules, e))

text_there : (cell : TableCell) (bytes : List ℕ) → text_in cell ≡ Some bytes → file_cell cell ≡ Bytes bytes
text_there absent bytes e = absurd (search (rules, e))
text_there (text b) bytes e = ap (λ o. Bytes (unwrap_or o [])) e
text_there (whole m) bytes e = absurd (search (rules, e))

-- what is decided of a cell is decided of what stands in its place
decided : (rows : List Numbered) (k at : ℕ) (cell : Cell) (P : Type 0) (b : Bool) → k < column_count rows → at < length rows
    → (P → file_cell (cell_at rows k at) ≡ cell) → (file_cell (cell_at rows k at) ≡ cell → P) → Decides b P
    → Decides b (slice_get (cells_of (column_at rows k) rows) at ≡ Some cell)
decided rows k at cell P b lt within to from d = (
  (λ t. cell_there rows k at lt within ∙ ap Some (to (d.0 t))),
  (λ e. d.1 (from (ap (λ o. unwrap_or o (file_cell (cell_at rows k at))) (sym (cell_there rows k at lt within) ∙ e)))),
)

pub absent_decided : (rows : List Numbered) (k at : ℕ) (t : Option (List ℕ)) (w : Option ℤ) (b : Bool) → k < column_count rows → at < length rows
    → t ≡ text_in (cell_at rows k at) → w ≡ whole_in (cell_at rows k at) → Decides b ((t ≡ None) × (w ≡ None))
    → Decides b (slice_get (cells_of (column_at rows k) rows) at ≡ Some Absent)
absent_decided rows k at t w b lt within is_t is_w d =
    decided rows k at Absent ((t ≡ None) × (w ≡ None)) b lt within
    (λ p. none_there (cell_at rows k at) (sym is_t ∙ p.0, sym is_w ∙ p.1))
    (λ e. let n = none_in (cell_at rows k at) e in (is_t ∙ n.0, is_w ∙ n.1)) d

pub whole_decided : (rows : List Numbered) (k at : ℕ) (w : Option ℤ) (n : ℤ) (b : Bool) → k < column_count rows → at < length rows
    → w ≡ whole_in (cell_at rows k at) → Decides b (w ≡ Some n) → Decides b (slice_get (cells_of (column_at rows k) rows) at ≡ Some (Whole n))
whole_decided rows k at w n b lt within is d =
    decided rows k at (Whole n) (w ≡ Some n) b lt within (λ p. number_there (cell_at rows k at) n (sym is ∙ p)) (λ e. is ∙ number_in (cell_at rows k at) n e) d

pub bytes_decided : (rows : List Numbered) (k at : ℕ) (t : Option (List ℕ)) (bytes : List ℕ) (b : Bool) → k < column_count rows → at < length rows
    → t ≡ text_in (cell_at rows k at) → Decides b (t ≡ Some bytes) → Decides b (slice_get (cells_of (column_at rows k) rows) at ≡ Some (Bytes bytes))
bytes_decided rows k at t bytes b lt within is d =
    decided rows k at (Bytes bytes) (t ≡ Some bytes) b lt within (λ p. text_there (cell_at rows k at) bytes (sym is ∙ p)) (λ e. is ∙ text_is (cell_at rows k at) bytes e) d

-- ---- lists that are compared item by item

pub same_more : {X : Type 0} (xs ys : List X) (i : ℕ) (x : X) → i < length xs → x ≡ get_or xs i x → slice_get ys i ≡ Some x → take i xs ≡ take i ys → take (i + 1) xs ≡ take (i + 1) ys
same_more xs ys i x lt is there so_far =
    take_more xs i x lt ∙ ap (λ y. take i xs ++ y ∷ []) (sym is) ∙ ap (λ zs. zs ++ x ∷ []) so_far ∙ sym (longer ys i x there)
  where
    longer : {X : Type 0} (ys : List X) (i : ℕ) (x : X) → slice_get ys i ≡ Some x → take (i + 1) ys ≡ take i ys ++ x ∷ []
    longer ys i x there = take_more ys i x (slice_get_within ys i x there) ∙ ap (λ y. take i ys ++ y ∷ []) (get_or_from_slice_get ys i x x there)

pub same_all : {X : Type 0} (xs ys : List X) (i : ℕ) → length xs ≡ length ys → length xs ≤ i → take i xs ≡ take i ys → xs ≡ ys
same_all xs ys i len le so_far = sym (take_all i xs le) ∙ so_far ∙ take_all i ys (omega (arith, len, le))

pub same_there : {X : Type 0} (xs ys : List X) (i : ℕ) (x : X) → i < length xs → x ≡ get_or xs i x → xs ≡ ys → slice_get ys i ≡ Some x
same_there xs ys i x lt is same = ap (λ zs. slice_get zs i) (sym same) ∙ slice_get-get_or xs i x lt ∙ ap Some (sym is)

-- ---- columns

pub other_length : (c : Column) (rows : List Numbered) (cells : List Cell) → length cells ≢ length rows → cells ≡ cells_of c rows → ⊥
other_length c rows cells differ same = differ (ap length same ∙ cells_length c rows)

pub lists_length : (rows : List Numbered) → length (map (λ c. cells_of c rows) (columns_of rows)) ≡ column_count rows
unfolding column_count
lists_length rows = length-map (columns_of rows) (λ c. cells_of c rows) ∙ sym (names_length (columns_of rows))

pub other_count : (rows : List Numbered) (cells : List (List Cell)) → length cells ≢ column_count rows → cells ≡ map (λ c. cells_of c rows) (columns_of rows) → ⊥
other_count rows cells differ same = differ (ap length same ∙ lists_length rows)

-- the cells of a table in a column
pub list_there : (rows : List Numbered) (k : ℕ) → k < column_count rows → slice_get (map (λ c. cells_of c rows) (columns_of rows)) k ≡ Some (cells_of (column_at rows k) rows)
list_there rows k lt = slice_get-map (λ c. cells_of c rows) (columns_of rows) k ∙ ap (option_map (λ c. cells_of c rows)) (column_there rows k lt)

pub list_is : (rows : List Numbered) (k : ℕ) (list : List Cell) → k < column_count rows → slice_get (map (λ c. cells_of c rows) (columns_of rows)) k ≡ Some list → list ≡ cells_of (column_at rows k) rows
list_is rows k list lt there = ap (λ o. unwrap_or o list) (sym there ∙ list_there rows k lt)
