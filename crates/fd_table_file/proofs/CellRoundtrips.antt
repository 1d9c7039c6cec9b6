-- Rows are told by their columns: the cells of all columns belong to one list of rows alone.
use Rattle.std.proofs.Common.{◌≡◌, ℕ, ◌+◌, ◌<◌, ◌^◌, ◌==◌, ℤ, pos, negsuc, if◌then◌else◌, List, [], ◌∷◌, ◌++◌, length, map, drop, get_or, Option, Some, None, refl, sym, ap, ◌∙◌, arith, length-append}
use Rattle.std.specs.Prelude.{All}
use Rattle.std.specs.List.{range_with_len}
use Rattle.std.specs.Int.{w32, to_le_bytes}
use Rattle.std.proofs.lemmas.List.Elements.{All-nil, All-cons, All-head, All-tail, All-get_or}
use Rattle.std.proofs.lemmas.List.FromFn.{fill_by_all}
use Rattle.std.proofs.lemmas.Option.{slice_get-get_or}
use Rattle.fd_kinds.specs.declared.pair.Pair.{Pair}
use Rattle.fd_kinds.specs.declared.row.Numbered.{Numbered}
use Rattle.fd_kinds.specs.LabelMaps.{value_of}
use Rattle.fd_column.specs.declared.table.Table.{Table}
use Rattle.fd_column.specs.Cells.{Column, number, name, sample_type, sample_unit, period_type, period_unit, timestamp, stack, period, duration, value, label, pprof_label, cell_of, label_cell, columns_of, fixed_columns, series_pairs, pprof_pairs, names_in}
use Rattle.fd_dictionary.specs.Dictionaries.{Cells}
use Rattle.fd_column.specs.LabelColumns.{label_column, label_columns}
use Rattle.fd_column.specs.Stacks.{stack_bytes, frame_bytes, AreShort}
use Rattle.fd_column.specs.Tables.{IsTableOf, row_at}
use Rattle.fd_column.proofs.TableLaws.{row_back}
use Rattle.fd_pages.specs.declared.cell.Cell.{Cell}
use Rattle.fd_pages.specs.declared.cell.Cell.TheVariants.{Absent, Whole, Bytes}
use Rattle.fd_pages.specs.Columns.{Fits}
use Rattle.fd_footer.specs.declared.footer.Column.{Column as FileColumn}
use Rattle.fd_table_file.specs.Columns.{file_cell, file_column, cells_of}

-- ---- the names of labels, from the columns of a file

-- the names of the optional columns that begin with a byte, without their first bytes
abbrev label_names : ℕ → ℕ → List FileColumn → List (List ℕ)
label_names first size [] = []
label_names first size (f ∷ fs) =
    if f.required then label_names first size fs
    else if get_or f.name 0 0 == first then drop size f.name ∷ label_names first size fs
    else label_names first size fs

series_back : (names others : List (List ℕ)) → label_names 108 7 (map file_column (map label names ++ map pprof_label others)) ≡ names
series_back [] [] = refl
series_back [] (l ∷ others) = series_back [] others
series_back (l ∷ names) others = ap (λ ls. l ∷ ls) (series_back names others)

pprof_back : (names others : List (List ℕ)) → label_names 112 13 (map file_column (map label names ++ map pprof_label others)) ≡ others
pprof_back [] [] = refl
pprof_back [] (l ∷ others) = ap (λ ls. l ∷ ls) (pprof_back [] others)
pprof_back (l ∷ names) others = pprof_back names others

series_names : (rows others : List Numbered) → map file_column (columns_of rows) ≡ map file_column (columns_of others) → names_in (series_pairs rows) ≡ names_in (series_pairs others)
series_names rows others same =
    sym (series_back (names_in (series_pairs rows)) (names_in (pprof_pairs rows)))
    ∙ ap (label_names 108 7) same
    ∙ series_back (names_in (series_pairs others)) (names_in (pprof_pairs others))

pprof_names : (rows others : List Numbered) → map file_column (columns_of rows) ≡ map file_column (columns_of others) → names_in (pprof_pairs rows) ≡ names_in (pprof_pairs others)
pprof_names rows others same =
    sym (pprof_back (names_in (series_pairs rows)) (names_in (pprof_pairs rows)))
    ∙ ap (label_names 112 13) same
    ∙ pprof_back (names_in (series_pairs others)) (names_in (pprof_pairs others))

-- columns are told by a file's
pub same_columns : (rows others : List Numbered) → map file_column (columns_of rows) ≡ map file_column (columns_of others) → columns_of rows ≡ columns_of others
same_columns rows others same =
    let series = series_names rows others same in
    let pprof = pprof_names rows others same in
    λ i. fixed_columns ++ (map label (series i) ++ map pprof_label (pprof i))

-- ---- what the cells of a column tell of the rows

number_told : Cell → ℕ
number_told Absent = 0
number_told (Whole (pos n)) = n
number_told (Whole (negsuc n)) = 0
number_told (Bytes bytes) = 0

whole_told : Cell → ℤ
whole_told Absent = pos 0
whole_told (Whole n) = n
whole_told (Bytes bytes) = pos 0

text_told : Cell → Option (List ℕ)
text_told Absent = None
text_told (Whole n) = None
text_told (Bytes bytes) = Some bytes

label_told : (o : Option (List ℕ)) → text_told (file_cell (label_cell o)) ≡ o
unfolding text_told
label_told None = refl
label_told (Some v) = refl

mapped : {X : Type 0} (f : Numbered → X) (told : Cell → X) (c : Column) → ((n : Numbered) → told (file_cell (cell_of c n)) ≡ f n) → (rows : List Numbered) → map told (cells_of c rows) ≡ map f rows
unfolding cells_of
mapped f told c is [] = refl
mapped f told c is (n ∷ rows) = let first = is n in let others = mapped f told c is rows in λ i. first i ∷ others i

column_told : {X : Type 0} (f : Numbered → X) (told : Cell → X) (c : Column) → ((n : Numbered) → told (file_cell (cell_of c n)) ≡ f n) → (rows others : List Numbered)
    → cells_of c rows ≡ cells_of c others → map f rows ≡ map f others
column_told f told c is rows others same = sym (mapped f told c is rows) ∙ ap (λ cells. map told cells) same ∙ mapped f told c is others

-- the cells of these columns are the same
abbrev pub AllSame : List Numbered → List Numbered → List Column → Type 0
AllSame rows others [] = Unit {0}
AllSame rows others (c ∷ cs) = (cells_of c rows ≡ cells_of c others) × AllSame rows others cs

values_of_rows : (pairs_of : Numbered → List Pair) (l : List ℕ) (rows : List Numbered) → map (λ pairs. value_of pairs l) (map pairs_of rows) ≡ map (λ n. value_of (pairs_of n) l) rows
values_of_rows pairs_of l [] = refl
values_of_rows pairs_of l (n ∷ rows) = ap (λ vs. value_of (pairs_of n) l ∷ vs) (values_of_rows pairs_of l rows)

series_values : (l : List ℕ) (rows others : List Numbered) → cells_of (label l) rows ≡ cells_of (label l) others
    → map (λ pairs. value_of pairs l) (series_pairs rows) ≡ map (λ pairs. value_of pairs l) (series_pairs others)
series_values l rows others same =
    values_of_rows (λ n. n.row.labels.pairs) l rows
    ∙ column_told (λ n. value_of n.row.labels.pairs l) text_told (label l) (λ n. label_told (value_of n.row.labels.pairs l)) rows others same
    ∙ sym (values_of_rows (λ n. n.row.labels.pairs) l others)

pprof_values : (l : List ℕ) (rows others : List Numbered) → cells_of (pprof_label l) rows ≡ cells_of (pprof_label l) others
    → map (λ pairs. value_of pairs l) (pprof_pairs rows) ≡ map (λ pairs. value_of pairs l) (pprof_pairs others)
pprof_values l rows others same =
    values_of_rows (λ n. n.row.pprof_labels.pairs) l rows
    ∙ column_told (λ n. value_of n.row.pprof_labels.pairs l) text_told (pprof_label l) (λ n. label_told (value_of n.row.pprof_labels.pairs l)) rows others same
    ∙ sym (values_of_rows (λ n. n.row.pprof_labels.pairs) l others)

series_columns : (rows others : List Numbered) (names more : List (List ℕ)) → AllSame rows others (map label names ++ map pprof_label more)
    → map (label_column (series_pairs rows)) names ≡ map (label_column (series_pairs others)) names
series_columns rows others [] more same = refl
series_columns rows others (l ∷ names) more same =
    let first = series_values l rows others same.0 in
    let behind = series_columns rows others names more same.1 in
    λ i. record { name = l; cells = first i } ∷ behind i

pprof_columns : (rows others : List Numbered) (names more : List (List ℕ)) → AllSame rows others (map label names ++ map pprof_label more)
    → map (label_column (pprof_pairs rows)) more ≡ map (label_column (pprof_pairs others)) more
pprof_columns rows others [] [] same = refl
pprof_columns rows others [] (l ∷ more) same =
    let first = pprof_values l rows others same.0 in
    let behind = pprof_columns rows others [] more same.1 in
    λ i. record { name = l; cells = first i } ∷ behind i
pprof_columns rows others (l ∷ names) more same = pprof_columns rows others names more same.1

-- ---- the rows

-- the columns of rows
abbrev table_of : List Numbered → Table Cells
table_of rows = record {
  numbers = map (λ n. n.number) rows;
  kinds = record {
    name = map (λ n. Some n.row.name) rows;
    sample_type = map (λ n. Some n.row.sample_type) rows;
    sample_unit = map (λ n. Some n.row.sample_unit) rows;
    period_type = map (λ n. Some n.row.period_type) rows;
    period_unit = map (λ n. Some n.row.period_unit) rows;
  };
  labels = label_columns (series_pairs rows);
  stacks = map (λ n. Some (stack_bytes n.row.stack)) rows;
  pprof_labels = label_columns (pprof_pairs rows);
  wholes = record {
    timestamps = map (λ n. n.row.timestamp) rows;
    periods = map (λ n. n.row.period) rows;
    durations = map (λ n. n.row.duration) rows;
    values = map (λ n. n.row.value) rows;
  };
}

table_is : (rows : List Numbered) → IsTableOf (table_of rows) rows
table_is rows = record {
  numbers = refl;
  kinds = record { name = refl; sample_type = refl; sample_unit = refl; period_type = refl; period_unit = refl };
  labels = refl;
  stacks = refl;
  pprof_labels = refl;
  wholes = record { timestamps = refl; periods = refl; durations = refl; values = refl };
}

table_is_other : (rows others : List Numbered) → map file_column (columns_of rows) ≡ map file_column (columns_of others) → AllSame rows others (columns_of rows) → IsTableOf (table_of rows) others
unfolding number_told whole_told text_told
table_is_other rows others columns same =
    let labels = same.1.1.1.1.1.1.1.1.1.1.1 in
    record {
      numbers = column_told (λ n. n.number) number_told number (λ n. refl) rows others same.0;
      kinds = record {
        name = column_told (λ n. Some n.row.name) text_told name (λ n. refl) rows others same.1.0;
        sample_type = column_told (λ n. Some n.row.sample_type) text_told sample_type (λ n. refl) rows others same.1.1.0;
        sample_unit = column_told (λ n. Some n.row.sample_unit) text_told sample_unit (λ n. refl) rows others same.1.1.1.0;
        period_type = column_told (λ n. Some n.row.period_type) text_told period_type (λ n. refl) rows others same.1.1.1.1.0;
        period_unit = column_told (λ n. Some n.row.period_unit) text_told period_unit (λ n. refl) rows others same.1.1.1.1.1.0;
      };
      labels = series_columns rows others (names_in (series_pairs rows)) (names_in (pprof_pairs rows)) labels
          ∙ ap (λ names. map (label_column (series_pairs others)) names) (series_names rows others columns);
      stacks = column_told (λ n. Some (stack_bytes n.row.stack)) text_told stack (λ n. refl) rows others same.1.1.1.1.1.1.1.0;
      pprof_labels = pprof_columns rows others (names_in (series_pairs rows)) (names_in (pprof_pairs rows)) labels
          ∙ ap (λ names. map (label_column (pprof_pairs others)) names) (pprof_names rows others columns);
      wholes = record {
        timestamps = column_told (λ n. n.row.timestamp) whole_told timestamp (λ n. refl) rows others same.1.1.1.1.1.1.0;
        periods = column_told (λ n. n.row.period) whole_told period (λ n. refl) rows others same.1.1.1.1.1.1.1.1.0;
        durations = column_told (λ n. n.row.duration) whole_told duration (λ n. refl) rows others same.1.1.1.1.1.1.1.1.1.0;
        values = column_told (λ n. n.row.value) whole_told value (λ n. refl) rows others same.1.1.1.1.1.1.1.1.1.1.0;
      };
    }

rows_filled : (t : Table Cells) (rows : List Numbered) → IsTableOf t rows → All (λ n. AreShort n.row.stack) rows → rows ≡ map (row_at t) (range_with_len 0 (length rows))
rows_filled t rows is short =
    fill_by_all (row_at t) rows (length rows) (row_at t 0) refl
    (λ at inside. sym (row_back t rows at (get_or rows at (row_at t 0)) is (All-get_or (λ n. AreShort n.row.stack) rows at (row_at t 0) inside short) (slice_get-get_or rows at (row_at t 0) inside)))

frames_short : (frames : List (List ℕ)) → length (stack_bytes frames) < 2 ^ 32 → AreShort frames
frames_short [] small = All-nil (λ (frame : List ℕ). length frame < 2 ^ 32)
frames_short (frame ∷ frames) small =
    let len : length (stack_bytes (frame ∷ frames)) ≡ length (frame_bytes frame) + length (stack_bytes frames) = length-append (frame_bytes frame) (stack_bytes frames) in
    let first : length (frame_bytes frame) ≡ length (to_le_bytes w32 (length frame)) + length frame = length-append (to_le_bytes w32 (length frame)) frame in
    All-cons (λ (frame : List ℕ). length frame < 2 ^ 32) frame frames (omega (arith, small, len, first)) (frames_short frames (omega (arith, small, len)))

stacks_short : (rows : List Numbered) → All Fits (cells_of stack rows) → All (λ n. AreShort n.row.stack) rows
unfolding cells_of
stacks_short [] fit = All-nil (λ n. AreShort n.row.stack)
stacks_short (n ∷ rows) fit =
    All-cons (λ n. AreShort n.row.stack) n rows
    (frames_short n.row.stack (All-head Fits (file_cell (cell_of stack n)) (cells_of stack rows) fit))
    (stacks_short rows (All-tail Fits (file_cell (cell_of stack n)) (cells_of stack rows) fit))

-- rows that have the same cells in the same columns are the same
pub same_rows : (rows others : List Numbered) → length rows ≡ length others → map file_column (columns_of rows) ≡ map file_column (columns_of others)
    → AllSame rows others (columns_of rows) → All Fits (cells_of stack rows) → All Fits (cells_of stack others) → rows ≡ others
same_rows rows others len columns same fit fit' =
    rows_filled (table_of rows) rows (table_is rows) (stacks_short rows fit)
    ∙ ap (λ (count : ℕ). map (row_at (table_of rows)) (range_with_len 0 count)) len
    ∙ sym (rows_filled (table_of rows) others (table_is_other rows others columns same) (stacks_short others fit'))
