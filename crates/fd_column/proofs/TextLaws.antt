-- The texts of the row at a place, and of its labels in their columns.
use Rattle.std.proofs.Common.{ℕ, ◌<◌, List, [], ◌∷◌, length, sym, subst}
use Rattle.std.specs.Prelude.{Option, Some, None, All, IfSome, IsUtf8, option_map}
use Rattle.std.specs.List.{cons_option}
use Rattle.std.proofs.lemmas.List.Elements.{All-nil, All-cons, All-head, All-tail, All-get_or}
use Rattle.std.proofs.lemmas.Option.{get_or_from_slice_get}
use Rattle.fd_kinds.specs.declared.pair.Pair.{Pair}
use Rattle.fd_column.specs.declared.table.LabelColumn.{LabelColumn}
use Rattle.fd_column.specs.declared.table.Table.{Table}
use Rattle.fd_dictionary.specs.Dictionaries.{Cells, cell_in}
use Rattle.fd_column.specs.LabelColumns.{pair_at, pairs_at}
use Rattle.fd_column.specs.Texts.{IsTextPair, HasTexts, AreTexts}
use Rattle.fd_column.specs.Tables.{IsGrowing, row_at, rows_of_table}
use Rattle.fd_column.proofs.TableLaws.{row_there, row_labels, row_pprof_labels}

-- the value of a column at a place is a text
abbrev pub HasTextAt : ℕ → LabelColumn Cells → Type 0
HasTextAt at c = IfSome (cell_in c.cells at) IsUtf8

first_text : (c : LabelColumn Cells) (o : Option (List ℕ)) (pairs : List Pair) → All IsTextPair (cons_option (option_map (λ value. record { name = c.name; value = value }) o) pairs) → IfSome o IsUtf8
first_text c None pairs h = tt
first_text c (Some value) pairs h = (All-head IsTextPair (record { name = c.name; value = value }) pairs h).value

other_texts : (c : LabelColumn Cells) (o : Option (List ℕ)) (pairs : List Pair) → All IsTextPair (cons_option (option_map (λ value. record { name = c.name; value = value }) o) pairs) → All IsTextPair pairs
other_texts c None pairs h = h
other_texts c (Some value) pairs h = All-tail IsTextPair (record { name = c.name; value = value }) pairs h

pub texts_in_columns : (columns : List (LabelColumn Cells)) (at : ℕ) → All IsTextPair (pairs_at columns at) → All (HasTextAt at) columns
texts_in_columns [] at h = All-nil (HasTextAt at)
texts_in_columns (c ∷ cs) at h =
    All-cons (HasTextAt at) c cs (first_text c (cell_in c.cells at) (pairs_at cs at) h) (texts_in_columns cs at (other_texts c (cell_in c.cells at) (pairs_at cs at) h))

pub texts_there : (t : Table Cells) (at : ℕ) → at < length (rows_of_table t) → IsGrowing t → HasTexts (row_at t at).row
texts_there t at inside growing =
    let there = row_there t at inside in
    subst (λ n. HasTexts n.row) (get_or_from_slice_get (rows_of_table t) at (row_at t at) (row_at t at) there) (All-get_or (λ n. HasTexts n.row) (rows_of_table t) at (row_at t at) inside growing.held.texts)

pub label_texts : (t : Table Cells) (at : ℕ) → at < length (rows_of_table t) → IsGrowing t → All (HasTextAt at) t.labels
label_texts t at inside growing =
    texts_in_columns t.labels at (subst (All IsTextPair) (sym (row_labels t (rows_of_table t) at (row_at t at) growing.table (row_there t at inside))) (texts_there t at inside growing).labels)

pub pprof_label_texts : (t : Table Cells) (at : ℕ) → at < length (rows_of_table t) → IsGrowing t → All (HasTextAt at) t.pprof_labels
pprof_label_texts t at inside growing =
    texts_in_columns t.pprof_labels at (subst (All IsTextPair) (sym (row_pprof_labels t (rows_of_table t) at (row_at t at) growing.table (row_there t at inside))) (texts_there t at inside growing).pprof_labels)
