-- What the cells of columns say of the row at a place.
use Rattle.std.proofs.Common.{◌≡◌, Bool, true, ℕ, ℤ, zero, suc, ◌<◌, List, [], ◌∷◌, map, length, slice_get, refl, sym, ◌∙◌, ap, arith}
use Rattle.std.specs.Prelude.{Option, Some, None, option_map, unwrap_or, All, Decides}
use Rattle.std.proofs.lemmas.List.Elements.{All-head, All-tail}
use Rattle.std.proofs.lemmas.Option.{same_Some}
use Rattle.fd_kinds.specs.declared.row.Row.{Row}
use Rattle.fd_kinds.specs.declared.row.Numbered.{Numbered}
use Rattle.fd_kinds.specs.declared.labels.Labels.{Labels}
use Rattle.fd_kinds.specs.LabelMaps.{value_of}
use Rattle.fd_dictionary.specs.Dictionaries.{cell_in}
use Rattle.fd_column.specs.Cells.{label, label_cell, columns_of, column_names, column_texts, cell_at, meeting, text_in, whole_in, labels_in}
use Rattle.fd_scan.specs.RowPlaces.{row_at, empty_row, text_of}

-- ---- the row at a place

pub row_there : (rows : List Numbered) (at : ℕ) → at < length rows → (n : Numbered) × (slice_get rows at ≡ Some n) × (row_at rows at ≡ n.row)
unfolding row_at
row_there [] at h = absurd (omega arith)
row_there (n ∷ ns) zero h = (n, refl, refl)
row_there (n ∷ ns) (suc at) h = row_there ns at (omega arith)

pub row_is : (rows : List Numbered) (at : ℕ) (n : Numbered) → slice_get rows at ≡ Some n → row_at rows at ≡ n.row
unfolding row_at
row_is [] at n h = cc
row_is (m ∷ ns) zero n h = let e : m ≡ n = cc in ap (λ k. k.row) e
row_is (m ∷ ns) (suc at) n h = row_is ns at n h

-- ---- whole numbers

pub fixed_inside : (rows : List Numbered) (column : ℕ) → column < 11 → column < length (column_names rows)
fixed_inside rows column h = omega arith

whole_read : (rows : List Numbered) (column at : ℕ) (f : Row → ℤ) (read : ℤ) → at < length rows → ((n : Numbered) → whole_in (meeting (slice_get (columns_of rows) column) (Some n)) ≡ Some (f n.row)) → whole_in (cell_at rows column at) ≡ Some read → read ≡ f (row_at rows at)
whole_read rows column at f read within is found =
    let there = row_there rows at within in
    let e : Some read ≡ Some (f there.0.row) = sym found ∙ ap (λ o. whole_in (meeting (slice_get (columns_of rows) column) o)) there.1 ∙ is there.0 in
    let v : read ≡ f there.0.row = cc in
    v ∙ ap f (sym there.2)

pub timestamp_read : (rows : List Numbered) (at : ℕ) (read : ℤ) → at < length rows → whole_in (cell_at rows 6 at) ≡ Some read → read ≡ (row_at rows at).timestamp
timestamp_read rows at read within found = whole_read rows 6 at (λ row. row.timestamp) read within (λ n. refl) found

pub duration_read : (rows : List Numbered) (at : ℕ) (read : ℤ) → at < length rows → whole_in (cell_at rows 9 at) ≡ Some read → read ≡ (row_at rows at).duration
duration_read rows at read within found = whole_read rows 9 at (λ row. row.duration) read within (λ n. refl) found

pub value_read : (rows : List Numbered) (at : ℕ) (read : ℤ) → at < length rows → whole_in (cell_at rows 10 at) ≡ Some read → read ≡ (row_at rows at).value
value_read rows at read within found = whole_read rows 10 at (λ row. row.value) read within (λ n. refl) found

-- ---- texts

text_read : (f : Numbered → Option (List ℕ)) (g : Row → List ℕ) → g empty_row ≡ [] → ((n : Numbered) → unwrap_or (f n) [] ≡ g n.row) → (rows : List Numbered) (at : ℕ) → text_of (map f rows) at ≡ g (row_at rows at)
unfolding row_at
text_read f g none is [] at = sym none
text_read f g none is (n ∷ ns) zero = is n
text_read f g none is (n ∷ ns) (suc at) = text_read f g none is ns at

pub name_read : (rows : List Numbered) (at : ℕ) → text_of (column_texts rows 1) at ≡ (row_at rows at).name
unfolding empty_row
name_read rows at = text_read (λ n. Some n.row.name) (λ row. row.name) refl (λ n. refl) rows at

pub sample_type_read : (rows : List Numbered) (at : ℕ) → text_of (column_texts rows 2) at ≡ (row_at rows at).sample_type
unfolding empty_row
sample_type_read rows at = text_read (λ n. Some n.row.sample_type) (λ row. row.sample_type) refl (λ n. refl) rows at

pub sample_unit_read : (rows : List Numbered) (at : ℕ) → text_of (column_texts rows 3) at ≡ (row_at rows at).sample_unit
unfolding empty_row
sample_unit_read rows at = text_read (λ n. Some n.row.sample_unit) (λ row. row.sample_unit) refl (λ n. refl) rows at

pub period_type_read : (rows : List Numbered) (at : ℕ) → text_of (column_texts rows 4) at ≡ (row_at rows at).period_type
unfolding empty_row
period_type_read rows at = text_read (λ n. Some n.row.period_type) (λ row. row.period_type) refl (λ n. refl) rows at

pub period_unit_read : (rows : List Numbered) (at : ℕ) → text_of (column_texts rows 5) at ≡ (row_at rows at).period_unit
unfolding empty_row
period_unit_read rows at = text_read (λ n. Some n.row.period_unit) (λ row. row.period_unit) refl (λ n. refl) rows at

-- ---- labels

text_label : (o : Option (List ℕ)) → text_in (label_cell o) ≡ o
text_label None = refl
text_label (Some v) = refl

-- the cells of a label's column are its values
pub label_cells : (rows : List Numbered) (column : ℕ) (name : List ℕ) → slice_get (columns_of rows) column ≡ Some (label name) → (n : Numbered) → text_in (meeting (slice_get (columns_of rows) column) (Some n)) ≡ value_of n.row.labels.pairs name
label_cells rows column name is n = ap (λ c. text_in (meeting c (Some n))) is ∙ text_label (value_of n.row.labels.pairs name)

pub label_read : (rows : List Numbered) (column at : ℕ) (name : List ℕ) → slice_get (columns_of rows) column ≡ Some (label name) → text_of (column_texts rows column) at ≡ unwrap_or (value_of (row_at rows at).labels.pairs name) []
unfolding empty_row
label_read rows column at name is =
    text_read (λ n. text_in (meeting (slice_get (columns_of rows) column) (Some n))) (λ row. unwrap_or (value_of row.labels.pairs name) []) refl
    (λ n. ap (λ o. unwrap_or o []) (label_cells rows column name is n)) rows at

-- no row has the label
pub no_label : (rows : List Numbered) (at : ℕ) (name : List ℕ) → All (λ n. value_of n.row.labels.pairs name ≡ None) rows → value_of (row_at rows at).labels.pairs name ≡ None
unfolding row_at empty_row
no_label [] at name h = refl
no_label (n ∷ ns) zero name h = All-head (λ n. value_of n.row.labels.pairs name ≡ None) n ns h
no_label (n ∷ ns) (suc at) name h = no_label ns at name (All-tail (λ n. value_of n.row.labels.pairs name ≡ None) n ns h)

read_cell : (f : Numbered → Option (List ℕ)) (g : Row → Option (List ℕ)) → g empty_row ≡ None → ((n : Numbered) → f n ≡ g n.row) → (rows : List Numbered) (at : ℕ) → cell_in (map f rows) at ≡ g (row_at rows at)
unfolding row_at
read_cell f g none is [] at = sym none
read_cell f g none is (n ∷ ns) zero = is n
read_cell f g none is (n ∷ ns) (suc at) = read_cell f g none is ns at

pub label_cell_read : (rows : List Numbered) (column at : ℕ) (name : List ℕ) → slice_get (columns_of rows) column ≡ Some (label name) → cell_in (column_texts rows column) at ≡ value_of (row_at rows at).labels.pairs name
unfolding empty_row
label_cell_read rows column at name is =
    read_cell (λ n. text_in (meeting (slice_get (columns_of rows) column) (Some n))) (λ row. value_of row.labels.pairs name) refl (label_cells rows column name is) rows at

-- ---- labels and stacks as values

whole_value : {X : Type 0} (rows : List Numbered) (at : ℕ) (f : Row → X) (read : X) → at < length rows → option_map (λ n. f n.row) (slice_get rows at) ≡ Some read → read ≡ f (row_at rows at)
whole_value rows at f read within found =
    let there = row_there rows at within in
    let e : Some read ≡ Some (f there.0.row) = sym found ∙ ap (option_map (λ n. f n.row)) there.1 in
    let v : read ≡ f there.0.row = cc in
    v ∙ ap f (sym there.2)

pub labels_read : (rows : List Numbered) (at : ℕ) (read : Labels) → at < length rows → option_map (λ n. n.row.labels) (slice_get rows at) ≡ Some read → read ≡ (row_at rows at).labels
labels_read rows at read within found = whole_value rows at (λ row. row.labels) read within found

pub stack_read : (rows : List Numbered) (at : ℕ) (read : List (List ℕ)) → at < length rows → option_map (λ n. n.row.stack) (slice_get rows at) ≡ Some read → read ≡ (row_at rows at).stack
stack_read rows at read within found = whole_value rows at (λ row. row.stack) read within found

-- ---- rows with the same cells

labels_there : (rows : List Numbered) (at : ℕ) → at < length rows → labels_in rows at ≡ Some (row_at rows at).labels
labels_there rows at within =
    let there = row_there rows at within in
    ap (option_map (λ n. n.row.labels)) there.1 ∙ ap (λ r. Some r.labels) (sym there.2)

pub same_labels : (rows : List Numbered) (a b : ℕ) (r : Bool) → a < length rows → b < length rows → Decides r (labels_in rows a ≡ labels_in rows b) → Decides r ((row_at rows a).labels ≡ (row_at rows b).labels)
same_labels rows a b r ha hb decides = (
  λ is. same_Some (row_at rows a).labels (row_at rows b).labels (sym (labels_there rows a ha) ∙ decides.0 is ∙ labels_there rows b hb),
  λ is. decides.1 (labels_there rows a ha ∙ ap Some is ∙ sym (labels_there rows b hb)),
)

names_there : (rows : List Numbered) (at : ℕ) → at < length rows → cell_in (column_texts rows 1) at ≡ Some (row_at rows at).name
unfolding row_at
names_there [] at h = absurd (omega arith)
names_there (n ∷ ns) zero h = refl
names_there (n ∷ ns) (suc at) h = names_there ns at (omega arith)

pub same_name : (rows : List Numbered) (a b : ℕ) (r : Bool) → Decides r (cell_in (column_texts rows 1) a ≡ cell_in (column_texts rows 1) b) → r ≡ true → (row_at rows a).name ≡ (row_at rows b).name
same_name rows a b r decides is =
    sym (name_read rows a) ∙ ap (λ o. unwrap_or o []) (decides.0 is) ∙ name_read rows b

pub names_decided : (rows : List Numbered) (a b : ℕ) (r : Bool) → Decides r (cell_in (column_texts rows 1) a ≡ cell_in (column_texts rows 1) b) → a < length rows → b < length rows → Decides r ((row_at rows a).name ≡ (row_at rows b).name)
names_decided rows a b r decides ha hb = (
  λ is. same_name rows a b r decides is,
  λ is. decides.1 (names_there rows a ha ∙ ap Some is ∙ sym (names_there rows b hb)),
)
