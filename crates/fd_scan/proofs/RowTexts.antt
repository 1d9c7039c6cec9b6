-- The texts of the row at a place, of its labels and of the columns' names are UTF-8.
use Rattle.std.proofs.Common.{◌≡◌, ℕ, zero, suc, Bool, true, false, cond, List, [], ◌∷◌, ◌++◌, sym, ◌∙◌, ap, subst, slice_get, arith, codes}
use Rattle.std.proofs.lemmas.List.Elements.{All-nil, All-head, All-tail, All-get_or}
use Rattle.std.proofs.lemmas.Option.{slice_get-map, slice_get_within, get_or_from_slice_get}
use Rattle.std.proofs.lemmas.Str.{IsUtf8-nil, IsUtf8-drop, IsCharBoundary-after_ascii}
use Rattle.std.specs.Prelude.{Option, Some, None, IfSome, All, IsUtf8, option_map}
use Rattle.std.specs.Ordering.{is_eq}
use Rattle.fd_kinds.specs.declared.pair.Pair.{Pair}
use Rattle.fd_kinds.specs.declared.row.Numbered.{Numbered}
use Rattle.fd_kinds.specs.LabelMaps.{value_of}
use Rattle.fd_lists.specs.Texts.{text_cmp}
use Rattle.fd_dictionary.specs.Dictionaries.{cell_in}
use Rattle.fd_column.specs.Cells.{label, column_name, columns_of, column_names, column_texts}
use Rattle.fd_column.specs.Texts.{IsTextPair, HasTexts, AreTexts}
use Rattle.fd_scan.specs.LabelNames.{label_at}
use Rattle.fd_scan.specs.RowPlaces.{row_at, empty_row, text_of}
use Rattle.fd_scan.proofs.CellValues.{name_read, sample_type_read, sample_unit_read, period_type_read, period_unit_read, label_cell_read}
use Rattle.fd_scan.proofs.LabelColumns.{label_there}

row_texts : (rows : List Numbered) (at : ℕ) → AreTexts rows → HasTexts (row_at rows at)
unfolding row_at empty_row
row_texts [] at h = record {
  name = IsUtf8-nil;
  sample_type = IsUtf8-nil;
  sample_unit = IsUtf8-nil;
  period_type = IsUtf8-nil;
  period_unit = IsUtf8-nil;
  labels = All-nil IsTextPair;
  stack = All-nil IsUtf8;
  pprof_labels = All-nil IsTextPair;
}
row_texts (n ∷ ns) zero h = All-head (λ n. HasTexts n.row) n ns h
row_texts (n ∷ ns) (suc at) h = row_texts ns at (All-tail (λ n. HasTexts n.row) n ns h)

pub name_text : (rows : List Numbered) (at : ℕ) → AreTexts rows → IsUtf8 (text_of (column_texts rows 1) at)
name_text rows at h = subst IsUtf8 (sym (name_read rows at)) (row_texts rows at h).name

pub sample_type_text : (rows : List Numbered) (at : ℕ) → AreTexts rows → IsUtf8 (text_of (column_texts rows 2) at)
sample_type_text rows at h = subst IsUtf8 (sym (sample_type_read rows at)) (row_texts rows at h).sample_type

pub sample_unit_text : (rows : List Numbered) (at : ℕ) → AreTexts rows → IsUtf8 (text_of (column_texts rows 3) at)
sample_unit_text rows at h = subst IsUtf8 (sym (sample_unit_read rows at)) (row_texts rows at h).sample_unit

pub period_type_text : (rows : List Numbered) (at : ℕ) → AreTexts rows → IsUtf8 (text_of (column_texts rows 4) at)
period_type_text rows at h = subst IsUtf8 (sym (period_type_read rows at)) (row_texts rows at h).period_type

pub period_unit_text : (rows : List Numbered) (at : ℕ) → AreTexts rows → IsUtf8 (text_of (column_texts rows 5) at)
period_unit_text rows at h = subst IsUtf8 (sym (period_unit_read rows at)) (row_texts rows at h).period_unit

-- ---- labels

value_text : (pairs : List Pair) (name : List ℕ) → All IsTextPair pairs → IfSome (value_of pairs name) IsUtf8
value_text [] name h = tt
value_text (p ∷ ps) name h = by (is_eq (text_cmp name p.name)) (value_text ps name (All-tail IsTextPair p ps h))
  where
    by : (b : Bool) → IfSome (value_of ps name) IsUtf8 → IfSome (cond b (Some p.value) (value_of ps name)) IsUtf8
    by true rest = (All-head IsTextPair p ps h).value
    by false rest = rest

-- the cells of a label's column
pub label_text : (rows : List Numbered) (column : ℕ) (name : List ℕ) → AreTexts rows → slice_get (columns_of rows) column ≡ Some (label name) → (at : ℕ) → IfSome (cell_in (column_texts rows column) at) IsUtf8
label_text rows column name h is at =
    subst (λ o. IfSome o IsUtf8) (sym (label_cell_read rows column at name is)) (value_text (row_at rows at).labels.pairs name (row_texts rows at h).labels)

behind_prefix : (name : List ℕ) → IsUtf8 (codes "labels." ++ name) → IsUtf8 name
behind_prefix name h =
    IsUtf8-drop (codes "labels." ++ name) 7 h (IsCharBoundary-after_ascii (codes "labels." ++ name) 6 h (omega arith) (omega arith))

-- a label's name, which is a part of its column's
pub label_name_text : (rows : List Numbered) (at : ℕ) (name : List ℕ) → All IsUtf8 (column_names rows) → label_at (column_names rows) at ≡ Some name → IsUtf8 name
label_name_text rows at name h is =
    let there : slice_get (column_names rows) at ≡ Some (column_name (label name)) = slice_get-map column_name (columns_of rows) at ∙ ap (option_map column_name) (label_there rows at name is) in
    behind_prefix name (subst IsUtf8 (get_or_from_slice_get (column_names rows) at (column_name (label name)) (column_name (label name)) there) (All-get_or IsUtf8 (column_names rows) at (column_name (label name)) (slice_get_within (column_names rows) at (column_name (label name)) there) h))
