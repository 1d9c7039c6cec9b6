-- The bytes of a page of cells are few where the rows are small.
use Rattle.std.proofs.Common.{◌≡◌, ℕ, zero, suc, ◌+◌, ◌-◌, ◌<◌, ◌≤◌, ◌^◌, Bool, true, false, List, [], ◌∷◌, length, take, drop, sum_by, slice_range, refl, arith, length-append}
use Rattle.std.specs.Ordering.{is_eq}
use Rattle.std.proofs.lemmas.List.Sums.{sum_by-cons}
use Rattle.fd_kinds.specs.declared.limits.TheConstants.{BLOCK_BYTES_LIMIT}
use Rattle.fd_kinds.specs.declared.pair.Pair.{Pair}
use Rattle.fd_kinds.specs.declared.row.Numbered.{Numbered}
use Rattle.fd_kinds.specs.LabelMaps.{value_of}
use Rattle.fd_lists.specs.Texts.{text_cmp}
use Rattle.fd_kinds.specs.RowSize.{text_size, pair_size, row_size}
use Rattle.fd_column.specs.Stacks.{stack_bytes, frame_bytes}
use Rattle.fd_column.specs.Cells.{Column, number, name, sample_type, sample_unit, period_type, period_unit, timestamp, stack, period, duration, value, label, pprof_label, cell_of, label_cell}
use Rattle.fd_pages.specs.declared.cell.Cell.{Cell}
use Rattle.fd_pages.specs.Columns.{plain, plain_values}
use Rattle.fd_table_file.specs.Columns.{file_cell, cells_of}

stack_short : (frames : List (List ℕ)) → length (stack_bytes frames) ≤ sum_by text_size frames
stack_short [] = omega arith
stack_short (frame ∷ frames) =
    let others : length (stack_bytes frames) ≤ sum_by text_size frames = stack_short frames in
    omega (arith, others, length-append (frame_bytes frame) (stack_bytes frames), sum_by-cons text_size frame frames)

label_with : (p : Pair) (pairs : List Pair) (l : List ℕ) (here : Bool) → is_eq (text_cmp l p.name) ≡ here
    → length (plain (file_cell (label_cell (value_of pairs l)))) ≤ sum_by pair_size pairs
    → length (plain (file_cell (label_cell (value_of (p ∷ pairs) l)))) ≤ sum_by pair_size (p ∷ pairs)
label_with p pairs l true e others = rw e (omega (arith, sum_by-cons pair_size p pairs))
label_with p pairs l false e others = rw e (omega (arith, others, sum_by-cons pair_size p pairs))

label_short : (pairs : List Pair) (l : List ℕ) → length (plain (file_cell (label_cell (value_of pairs l)))) ≤ sum_by pair_size pairs
label_short [] l = omega arith
label_short (p ∷ pairs) l = label_with p pairs l (is_eq (text_cmp l p.name)) refl (label_short pairs l)

cell_short : (c : Column) (n : Numbered) → length (plain (file_cell (cell_of c n))) ≤ row_size n.row
cell_short number n = omega arith
cell_short name n = omega arith
cell_short sample_type n = omega arith
cell_short sample_unit n = omega arith
cell_short period_type n = omega arith
cell_short period_unit n = omega arith
cell_short timestamp n = omega arith
cell_short stack n = omega (arith, stack_short n.row.stack)
cell_short period n = omega arith
cell_short duration n = omega arith
cell_short value n = omega arith
cell_short (label l) n = omega (arith, label_short n.row.labels.pairs l)
cell_short (pprof_label l) n = omega (arith, label_short n.row.pprof_labels.pairs l)

column_short : (c : Column) (rows : List Numbered) → length (plain_values (cells_of c rows)) ≤ sum_by (λ n. row_size n.row) rows
unfolding cells_of
column_short c [] = omega arith
column_short c (n ∷ rows) =
    let others : length (plain_values (cells_of c rows)) ≤ sum_by (λ n. row_size n.row) rows = column_short c rows in
    omega (arith, others, cell_short c n, length-append (plain (file_cell (cell_of c n))) (plain_values (cells_of c rows)), sum_by-cons (λ n. row_size n.row) n rows)

front_short : (k : ℕ) (cells : List Cell) → length (plain_values (take k cells)) ≤ length (plain_values cells)
front_short zero cells = omega arith
front_short (suc k) [] = omega arith
front_short (suc k) (cell ∷ cells) =
    let others : length (plain_values (take k cells)) ≤ length (plain_values cells) = front_short k cells in
    omega (arith, others, length-append (plain cell) (plain_values (take k cells)), length-append (plain cell) (plain_values cells))

back_short : (k : ℕ) (cells : List Cell) → length (plain_values (drop k cells)) ≤ length (plain_values cells)
back_short zero cells = omega arith
back_short (suc k) [] = omega arith
back_short (suc k) (cell ∷ cells) =
    let others : length (plain_values (drop k cells)) ≤ length (plain_values cells) = back_short k cells in
    omega (arith, others, length-append (plain cell) (plain_values cells))

part_short : (a b : ℕ) (cells : List Cell) → length (plain_values (slice_range cells a b)) ≤ length (plain_values cells)
part_short a b cells = omega (arith, front_short (b - a) (drop a cells), back_short a cells)

-- a page's body fits its header
pub body_small : (c : Column) (rows : List Numbered) (a b : ℕ) (body : List ℕ)
    → sum_by (λ n. row_size n.row) rows < BLOCK_BYTES_LIMIT → length body ≤ length (plain_values (slice_range (cells_of c rows) a b)) + 3004 → length body < 2 ^ 31
body_small c rows a b body small short =
    omega (arith, small, short, part_short a b (cells_of c rows), column_short c rows)

-- each row has a byte
pub rows_few : (rows : List Numbered) → length rows ≤ sum_by (λ n. row_size n.row) rows
rows_few [] = omega arith
rows_few (n ∷ rows) =
    let others : length rows ≤ sum_by (λ n. row_size n.row) rows = rows_few rows in
    omega (arith, others, sum_by-cons (λ n. row_size n.row) n rows)
