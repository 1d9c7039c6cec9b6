-- The cells of a column are of its kind, and the columns by their places.
use Rattle.std.proofs.Common.{◌≡◌, ℕ, zero, suc, ◌+◌, ◌<◌, ◌≤◌, ℤ, pos, Bool, false, nat_lt, if◌then◌else◌, slice_range, List, [], ◌∷◌, ◌++◌, length, map, Option, Some, None, slice_get, option_map, refl, sym, ap, ◌∙◌, arith, rules, ◌-◌, take, drop, get_or, length-drop, take-suc, get_or-drop}
use Rattle.std.specs.Prelude.{unwrap_or, All}
use Rattle.std.proofs.lemmas.Option.{slice_get-map, slice_get_within, get_or_from_slice_get}
use Rattle.std.proofs.lemmas.List.Elements.{All-nil, All-cons}
use Rattle.fd_kinds.specs.declared.row.Numbered.{Numbered}
use Rattle.fd_kinds.specs.LabelMaps.{value_of}
use Rattle.fd_column.specs.Cells.{Column, number, name, sample_type, sample_unit, period_type, period_unit, timestamp, stack, period, duration, value, label, pprof_label, cell_of, label_cell, absent, text, whole, cell_at, meeting, text_in, whole_in, has_texts, is_text_column, columns_of, column_name, series_pairs, pprof_pairs, names_in}
use Rattle.fd_column.specs.Cells.{Cell as TableCell}
use Rattle.fd_pages.specs.declared.cell.CellKind.TheVariants.{Bytes as BytesKind}
use Rattle.fd_pages.specs.declared.cell.Cell.TheVariants.{Absent, Whole, Bytes}
use Rattle.fd_footer.specs.declared.footer.ColumnType.TheVariants.{Int64, ByteArray}
use Rattle.fd_pages.specs.Columns.{IsOfColumn}
use Rattle.fd_table_file.specs.Columns.{kind_of, type_of, is_required, file_cell, cells_of, column_at, column_count}

of_label : (o : Option (List ℕ)) → IsOfColumn BytesKind false (file_cell (label_cell o))
of_label None = refl
of_label (Some v) = tt

of_column : (c : Column) (n : Numbered) → IsOfColumn (kind_of c) (is_required c) (file_cell (cell_of c n))
of_column number n = tt
of_column name n = tt
of_column sample_type n = tt
of_column sample_unit n = tt
of_column period_type n = tt
of_column period_unit n = tt
of_column timestamp n = tt
of_column stack n = tt
of_column period n = tt
of_column duration n = tt
of_column value n = tt
of_column (label l) n = of_label (value_of n.row.labels.pairs l)
of_column (pprof_label l) n = of_label (value_of n.row.pprof_labels.pairs l)

found : {X : Type 0} (xs : List X) (k : ℕ) → k < length xs → (x : X) × (slice_get xs k ≡ Some x)
found [] k lt = absurd (omega (arith, lt))
found (x ∷ xs) zero lt = (x, refl)
found (x ∷ xs) (suc k) lt = found xs k (omega (arith, lt))

pub names_length : (cs : List Column) → length (map column_name cs) ≡ length cs
names_length [] = refl
names_length (c ∷ cs) = ap suc (names_length cs)

-- a column at a place that it has
pub column_there : (rows : List Numbered) (k : ℕ) → k < column_count rows → slice_get (columns_of rows) k ≡ Some (column_at rows k)
unfolding column_at column_count
column_there rows k lt =
    let (c, e) = found (columns_of rows) k (omega (arith, lt, names_length (columns_of rows))) in
    e ∙ ap Some (sym (ap (λ o. unwrap_or o number) e))

-- the cell of a row in a column that are there
pub cell_there : (rows : List Numbered) (k at : ℕ) → k < column_count rows → at < length rows
    → slice_get (cells_of (column_at rows k) rows) at ≡ Some (file_cell (cell_at rows k at))
unfolding cells_of
cell_there rows k at lt within =
    let (row, e) = found rows at within in
    slice_get-map (λ row. file_cell (cell_of (column_at rows k) row)) rows at
    ∙ ap (option_map (λ row. file_cell (cell_of (column_at rows k) row))) e
    ∙ ap (λ r. Some (file_cell (meeting (Some (column_at rows k)) r))) (sym e)
    ∙ ap (λ c. Some (file_cell (meeting c (slice_get rows at)))) (sym (column_there rows k lt))

text_cell : (cell : TableCell) (bytes : List ℕ) → text_in cell ≡ Some bytes → file_cell cell ≡ Bytes bytes
text_cell absent bytes e = absurd (search (rules, e))
text_cell (text b) bytes e = ap (λ o. Bytes (unwrap_or o [])) e
text_cell (whole n) bytes e = absurd (search (rules, e))

whole_cell : (cell : TableCell) (n : ℤ) → text_in cell ≡ None → whole_in cell ≡ Some n → file_cell cell ≡ Whole n
whole_cell absent n e f = absurd (search (rules, f))
whole_cell (text b) n e f = absurd (search (rules, e))
whole_cell (whole m) n e f = ap (λ o. Whole (unwrap_or o (pos 0))) f

absent_cell : (cell : TableCell) → text_in cell ≡ None → whole_in cell ≡ None → file_cell cell ≡ Absent
absent_cell absent e f = refl
absent_cell (text b) e f = absurd (search (rules, e))
absent_cell (whole m) e f = absurd (search (rules, f))

pub text_there : (rows : List Numbered) (k at : ℕ) (bytes : List ℕ) → k < column_count rows → at < length rows
    → text_in (cell_at rows k at) ≡ Some bytes → slice_get (cells_of (column_at rows k) rows) at ≡ Some (Bytes bytes)
text_there rows k at bytes lt within e = cell_there rows k at lt within ∙ ap Some (text_cell (cell_at rows k at) bytes e)

pub whole_there : (rows : List Numbered) (k at : ℕ) (n : ℤ) → k < column_count rows → at < length rows
    → text_in (cell_at rows k at) ≡ None → whole_in (cell_at rows k at) ≡ Some n → slice_get (cells_of (column_at rows k) rows) at ≡ Some (Whole n)
whole_there rows k at n lt within e f = cell_there rows k at lt within ∙ ap Some (whole_cell (cell_at rows k at) n e f)

pub absent_there : (rows : List Numbered) (k at : ℕ) → k < column_count rows → at < length rows
    → text_in (cell_at rows k at) ≡ None → whole_in (cell_at rows k at) ≡ None → slice_get (cells_of (column_at rows k) rows) at ≡ Some Absent
absent_there rows k at lt within e f = cell_there rows k at lt within ∙ ap Some (absent_cell (cell_at rows k at) e f)

-- the type of a column, by whether its cells are texts
pub type_there : (rows : List Numbered) (k : ℕ) (b : Bool) → k < column_count rows → is_text_column rows k ≡ b → type_of (column_at rows k) ≡ (if b then ByteArray else Int64)
type_there rows k b lt is = ap (λ b. if b then ByteArray else Int64) (sym (ap has_texts (column_there rows k lt)) ∙ is)

-- all cells of a column are of its kind
pub of_columns : (c : Column) (rows : List Numbered) → All (IsOfColumn (kind_of c) (is_required c)) (cells_of c rows)
unfolding cells_of
of_columns c [] = All-nil (IsOfColumn (kind_of c) (is_required c))
of_columns c (n ∷ rows) = All-cons (IsOfColumn (kind_of c) (is_required c)) _ _ (of_column c n) (of_columns c rows)

pub cells_length : (c : Column) (rows : List Numbered) → length (cells_of c rows) ≡ length rows
unfolding cells_of
cells_length c [] = refl
cells_length c (n ∷ rows) = ap suc (cells_length c rows)

range_snoc : {X : Type 0} (xs : List X) (a b : ℕ) (d : X) → a ≤ b → b < length xs → slice_range xs a (b + 1) ≡ slice_range xs a b ++ get_or xs b d ∷ []
range_snoc xs a b d p q =
    let e : b + 1 - a ≡ suc (b - a) = omega arith in
    let at : a + (b - a) ≡ b = omega arith in
    ap (λ n. take n (drop a xs)) e
    ∙ take-suc (drop a xs) (b - a) d (omega (arith, length-drop a xs))
    ∙ ap (λ y. slice_range xs a b ++ y ∷ []) (get_or-drop a xs (b - a) d ∙ ap (λ n. get_or xs n d) at)

-- one more cell of a part of them
pub part_more : {X : Type 0} (xs : List X) (from at : ℕ) (x : X) → from ≤ at → slice_get xs at ≡ Some x → slice_range xs from at ++ x ∷ [] ≡ slice_range xs from (at + 1)
part_more xs from at x le there =
    let lt : at < length xs = slice_get_within xs at x there in
    ap (λ y. slice_range xs from at ++ y ∷ []) (sym (get_or_from_slice_get xs at x x there)) ∙ sym (range_snoc xs from at x le lt)

label_optional : (names : List (List ℕ)) (others : List (List ℕ)) (k : ℕ) → k < length (map label names ++ map pprof_label others) → is_required (unwrap_or (slice_get (map label names ++ map pprof_label others) k) number) ≡ false
label_optional [] [] k lt = absurd (omega (arith, lt))
label_optional [] (l ∷ others) zero lt = refl
label_optional [] (l ∷ others) (suc k) lt = label_optional [] others k (omega (arith, lt))
label_optional (l ∷ names) others zero lt = refl
label_optional (l ∷ names) others (suc k) lt = label_optional names others k (omega (arith, lt))

not_below : (k : ℕ) → nat_lt (suc (suc (suc (suc (suc (suc (suc (suc (suc (suc (suc k))))))))))) 11 ≡ false
not_below k = grind arith

-- the first eleven columns are required
pub required_at : (rows : List Numbered) (k : ℕ) → k < column_count rows → is_required (column_at rows k) ≡ nat_lt k 11
unfolding column_at column_count
required_at rows zero lt = refl
required_at rows (suc zero) lt = refl
required_at rows (suc (suc zero)) lt = refl
required_at rows (suc (suc (suc zero))) lt = refl
required_at rows (suc (suc (suc (suc zero)))) lt = refl
required_at rows (suc (suc (suc (suc (suc zero))))) lt = refl
required_at rows (suc (suc (suc (suc (suc (suc zero)))))) lt = refl
required_at rows (suc (suc (suc (suc (suc (suc (suc zero))))))) lt = refl
required_at rows (suc (suc (suc (suc (suc (suc (suc (suc zero)))))))) lt = refl
required_at rows (suc (suc (suc (suc (suc (suc (suc (suc (suc zero))))))))) lt = refl
required_at rows (suc (suc (suc (suc (suc (suc (suc (suc (suc (suc zero)))))))))) lt = refl
required_at rows (suc (suc (suc (suc (suc (suc (suc (suc (suc (suc (suc k))))))))))) lt =
    let within : k < length (map label (names_in (series_pairs rows)) ++ map pprof_label (names_in (pprof_pairs rows))) =
    omega (arith, lt, names_length (map label (names_in (series_pairs rows)) ++ map pprof_label (names_in (pprof_pairs rows)))) in
    label_optional (names_in (series_pairs rows)) (names_in (pprof_pairs rows)) k within ∙ sym (not_below k)

pub part_none : {X : Type 0} (xs : List X) (from : ℕ) → [] ≡ slice_range xs from from
part_none xs from = let e : 0 ≡ from - from = omega arith in ap (λ n. take n (drop from xs)) e
