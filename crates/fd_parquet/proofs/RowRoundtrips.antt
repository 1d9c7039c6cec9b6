-- The rows are read back from their cells.
use Rattle.std.proofs.Common.{◌≡◌, ℕ, zero, suc, ◌+◌, ◌<◌, ◌^◌, pos, List, [], ◌∷◌, ◌++◌, length, map, refl, sym, ap, ◌∙◌, subst, arith, length-append, codes}
use Rattle.std.specs.Prelude.{Option, Some, None, slice_get, unwrap_or, option_map, option_and_then, All}
use Rattle.std.specs.List.{cons_option}
use Rattle.std.proofs.lemmas.Option.{slice_get-map, same_Some}
use Rattle.std.proofs.lemmas.List.Elements.{All-nil, All-cons, All-head, All-tail}
use Rattle.fd_kinds.specs.declared.pair.Pair.{Pair}
use Rattle.fd_kinds.specs.declared.row.Numbered.{Numbered}
use Rattle.fd_kinds.specs.LabelMaps.{value_of}
use Rattle.fd_column.specs.Cells.{Column, number, name, sample_type, sample_unit, period_type, period_unit, timestamp, stack, period, duration, value, label, pprof_label, cell_of, label_cell, columns_of, names_in, series_pairs, pprof_pairs}
use Rattle.fd_column.specs.LabelColumns.{label_column, pair_at, pairs_at}
use Rattle.fd_column.specs.Stacks.{stack_bytes, frame_bytes, frames_of, AreShort}
use Rattle.fd_column.proofs.RowLabels.{pairs_of_row, labels_from_is}
use Rattle.fd_column.proofs.StackLaws.{frames_of_stack}
use Rattle.fd_pages.specs.declared.cell.Cell.{Cell}
use Rattle.fd_pages.specs.Columns.{Fits}
use Rattle.fd_footer.specs.declared.footer.Column.{Column as FileColumn}
use Rattle.fd_table_file.specs.Columns.{file_cell, file_column, cells_of, IsStack}
use Rattle.fd_parquet.specs.Stages.{HasCells}
use Rattle.fd_parquet.specs.Rows.{cell_in, cell_number, cell_bytes, pair_of, pairs_in, row_in}

-- the cell of a row that is there
cell_here : (c : Column) (rows : List Numbered) (at : ℕ) (n : Numbered) → slice_get rows at ≡ Some n → slice_get (cells_of c rows) at ≡ Some (file_cell (cell_of c n))
unfolding cells_of
cell_here c rows at n is = slice_get-map (λ row. file_cell (cell_of c row)) rows at ∙ ap (option_map (λ row. file_cell (cell_of c row))) is

-- ---- labels

bytes_label : (o : Option (List ℕ)) → cell_bytes (Some (file_cell (label_cell o))) ≡ o
bytes_label None = refl
bytes_label (Some v) = refl

pair_is : (m : List ℕ) (o : Option (List ℕ)) → pair_of (Some m) o ≡ option_map (λ value. record { name = m; value = value }) o
pair_is m None = refl
pair_is m (Some v) = refl

-- the pair that a column of values has at the place of a row
pair_there : (maps : List (List Pair)) (at : ℕ) (ps : List Pair) (m : List ℕ) → slice_get maps at ≡ Some ps → pair_at at (label_column maps m) ≡ option_map (λ value. record { name = m; value = value }) (value_of ps m)
pair_there maps at ps m is =
    ap (λ o. option_map (λ value. record { name = m; value = value }) (option_and_then (λ cell. cell) o)) (slice_get-map (λ pairs. value_of pairs m) maps at ∙ ap (option_map (λ pairs. value_of pairs m)) is)

map_there : {Y : Type 0} (f : Numbered → Y) (rows : List Numbered) (at : ℕ) (n : Numbered) → slice_get rows at ≡ Some n → slice_get (map f rows) at ≡ Some (f n)
map_there f rows at n is = slice_get-map f rows at ∙ ap (option_map f) is

series_tail : (rows : List Numbered) (at : ℕ) (n : Numbered) (names others : List (List ℕ)) → slice_get rows at ≡ Some n
    → pairs_in (codes "labels.") (map file_column (map label names ++ map pprof_label others)) (map (λ c. cells_of c rows) (map label names ++ map pprof_label others)) at
    ≡ pairs_at (map (label_column (series_pairs rows)) names) at
series_tail rows at n [] [] is = refl
series_tail rows at n [] (o ∷ others) is = series_tail rows at n [] others is
series_tail rows at n (m ∷ names) others is =
    let mine : pair_of (Some m) (cell_bytes (slice_get (cells_of (label m) rows) at)) ≡ pair_at at (label_column (series_pairs rows) m) =
    ap (λ c. pair_of (Some m) (cell_bytes c)) (cell_here (label m) rows at n is)
    ∙ ap (pair_of (Some m)) (bytes_label (value_of n.row.labels.pairs m))
    ∙ pair_is m (value_of n.row.labels.pairs m)
    ∙ sym (pair_there (series_pairs rows) at n.row.labels.pairs m (map_there (λ n. n.row.labels.pairs) rows at n is)) in
    let rest = series_tail rows at n names others is in
    λ i. cons_option (mine i) (rest i)

series_back : (rows : List Numbered) (at : ℕ) (n : Numbered) → slice_get rows at ≡ Some n
    → pairs_in (codes "labels.") (map file_column (columns_of rows)) (map (λ c. cells_of c rows) (columns_of rows)) at ≡ n.row.labels.pairs
series_back rows at n is =
    series_tail rows at n (names_in (series_pairs rows)) (names_in (pprof_pairs rows)) is
    ∙ pairs_of_row (series_pairs rows) at n.row.labels.pairs (map_there (λ n. n.row.labels.pairs) rows at n is) n.row.labels.in_order

pprof_tail : (rows : List Numbered) (at : ℕ) (n : Numbered) (names others : List (List ℕ)) → slice_get rows at ≡ Some n
    → pairs_in (codes "pprof_labels.") (map file_column (map label names ++ map pprof_label others)) (map (λ c. cells_of c rows) (map label names ++ map pprof_label others)) at
    ≡ pairs_at (map (label_column (pprof_pairs rows)) others) at
pprof_tail rows at n [] [] is = refl
pprof_tail rows at n (m ∷ names) others is = pprof_tail rows at n names others is
pprof_tail rows at n [] (m ∷ others) is =
    let mine : pair_of (Some m) (cell_bytes (slice_get (cells_of (pprof_label m) rows) at)) ≡ pair_at at (label_column (pprof_pairs rows) m) =
    ap (λ c. pair_of (Some m) (cell_bytes c)) (cell_here (pprof_label m) rows at n is)
    ∙ ap (pair_of (Some m)) (bytes_label (value_of n.row.pprof_labels.pairs m))
    ∙ pair_is m (value_of n.row.pprof_labels.pairs m)
    ∙ sym (pair_there (pprof_pairs rows) at n.row.pprof_labels.pairs m (map_there (λ n. n.row.pprof_labels.pairs) rows at n is)) in
    let rest = pprof_tail rows at n [] others is in
    λ i. cons_option (mine i) (rest i)

pprof_back : (rows : List Numbered) (at : ℕ) (n : Numbered) → slice_get rows at ≡ Some n
    → pairs_in (codes "pprof_labels.") (map file_column (columns_of rows)) (map (λ c. cells_of c rows) (columns_of rows)) at ≡ n.row.pprof_labels.pairs
pprof_back rows at n is =
    pprof_tail rows at n (names_in (series_pairs rows)) (names_in (pprof_pairs rows)) is
    ∙ pairs_of_row (pprof_pairs rows) at n.row.pprof_labels.pairs (map_there (λ n. n.row.pprof_labels.pairs) rows at n is) n.row.pprof_labels.in_order

-- ---- stacks

short_frames : (frames : List (List ℕ)) → length (stack_bytes frames) < 2 ^ 32 → AreShort frames
short_frames [] few = All-nil (λ (frame : List ℕ). length frame < 2 ^ 32)
short_frames (frame ∷ frames) few =
    let len : length (stack_bytes (frame ∷ frames)) ≡ length (frame_bytes frame) + length (stack_bytes frames) = length-append (frame_bytes frame) (stack_bytes frames) in
    All-cons (λ (frame : List ℕ). length frame < 2 ^ 32) frame frames (omega (arith, len, few)) (short_frames frames (omega (arith, len, few)))

-- the frames that the bytes of a stack spell
pub frames_back : (bytes : List ℕ) (s : IsStack bytes) → frames_of bytes ≡ s.frames
frames_back bytes s = ap frames_of s.spelled ∙ frames_of_stack s.frames s.short

pub all_there : {X : Type 0} (P : X → Type 0) (xs : List X) (k : ℕ) (x : X) → All P xs → slice_get xs k ≡ Some x → P x
all_there P [] k x all is = cc
all_there P (y ∷ ys) zero x all is = subst P (same_Some y x is) (All-head P y ys all)
all_there P (y ∷ ys) (suc k) x all is = all_there P ys k x (All-tail P y ys all) is

stack_short : (rows : List Numbered) (at : ℕ) (n : Numbered) → slice_get rows at ≡ Some n → All (All Fits) (map (λ c. cells_of c rows) (columns_of rows)) → AreShort n.row.stack
stack_short rows at n is fit =
    let cells : All Fits (cells_of stack rows) = all_there (All Fits) (map (λ c. cells_of c rows) (columns_of rows)) 7 (cells_of stack rows) fit refl in
    short_frames n.row.stack (all_there Fits (cells_of stack rows) at (file_cell (cell_of stack n)) cells (cell_here stack rows at n is))

-- ---- the row

text_back : (c : Column) (rows : List Numbered) (at : ℕ) (n : Numbered) (t : List ℕ) → slice_get rows at ≡ Some n → file_cell (cell_of c n) ≡ file_cell (cell_of c n) → cell_bytes (Some (file_cell (cell_of c n))) ≡ Some t
    → unwrap_or (cell_bytes (slice_get (cells_of c rows) at)) [] ≡ t
text_back c rows at n t is _ told = ap (λ o. unwrap_or (cell_bytes o) []) (cell_here c rows at n is) ∙ ap (λ o. unwrap_or o []) told

whole_back : (c : Column) (rows : List Numbered) (at : ℕ) (n : Numbered) → slice_get rows at ≡ Some n → cell_number (slice_get (cells_of c rows) at) ≡ cell_number (Some (file_cell (cell_of c n)))
whole_back c rows at n is = ap cell_number (cell_here c rows at n is)

row_there : (rows : List Numbered) (at : ℕ) (n : Numbered) → slice_get rows at ≡ Some n → AreShort n.row.stack
    → row_in (map file_column (columns_of rows)) (map (λ c. cells_of c rows) (columns_of rows)) at ≡ n.row
row_there rows at n is short =
    let labels = labels_from_is n.row.labels _ (series_back rows at n is) in
    let pprof_labels = labels_from_is n.row.pprof_labels _ (pprof_back rows at n is) in
    let a = text_back name rows at n n.row.name is refl refl in
    let b = text_back sample_type rows at n n.row.sample_type is refl refl in
    let c = text_back sample_unit rows at n n.row.sample_unit is refl refl in
    let d = text_back period_type rows at n n.row.period_type is refl refl in
    let e = text_back period_unit rows at n n.row.period_unit is refl refl in
    let f = whole_back timestamp rows at n is in
    let g = ap frames_of (text_back stack rows at n (stack_bytes n.row.stack) is refl refl) ∙ frames_of_stack n.row.stack short in
    let h = whole_back period rows at n is in
    let j = whole_back duration rows at n is in
    let k = whole_back value rows at n is in
    λ i. record {
      name = a i;
      sample_type = b i;
      sample_unit = c i;
      period_type = d i;
      period_unit = e i;
      labels = labels i;
      timestamp = f i;
      stack = g i;
      pprof_labels = pprof_labels i;
      period = h i;
      duration = j i;
      value = k i;
    }

pub row_back : (columns : List FileColumn) (cells : List (List Cell)) (rows : List Numbered) (at : ℕ) (n : Numbered) → HasCells columns cells rows → All (All Fits) cells → slice_get rows at ≡ Some n
    → row_in columns cells at ≡ n.row
row_back columns cells rows at n has fit is =
    ap (λ cs. row_in cs cells at) has.same
    ∙ ap (λ xs. row_in (map file_column (columns_of rows)) xs at) has.each
    ∙ row_there rows at n is (stack_short rows at n is (subst (λ xs. All (All Fits) xs) has.each fit))

pub number_back : (columns : List FileColumn) (cells : List (List Cell)) (rows : List Numbered) (at : ℕ) (n : Numbered) → HasCells columns cells rows → slice_get rows at ≡ Some n
    → cell_number (cell_in cells 0 at) ≡ pos n.number
number_back columns cells rows at n has is = ap (λ xs. cell_number (cell_in xs 0 at)) has.each ∙ whole_back number rows at n is
