-- The values of a label of the rows at places are the texts of the label's column there.
use Rattle.std.proofs.Common.{◌≡◌, ℕ, List, [], ◌∷◌, ◌++◌, refl, sym, ◌∙◌, ap, append-nil, Some, None}
use Rattle.std.specs.Prelude.{slice_get, flat_map, All}
use Rattle.std.specs.Option.{option_to_list}
use Rattle.std.proofs.lemmas.Grind.{flat_map-append}
use Rattle.fd_kinds.specs.declared.row.Row.{Row}
use Rattle.fd_kinds.specs.declared.row.Numbered.{Numbered}
use Rattle.fd_kinds.specs.LabelMaps.{value_of}
use Rattle.fd_kinds.specs.Meaning.{distinct, values_at, label_values}
use Rattle.fd_lists.specs.Texts.{text_cmp}
use Rattle.fd_column.specs.Cells.{label, columns_of, column_texts}
use Rattle.fd_scan.specs.RowPlaces.{row_at, rows_at}
use Rattle.fd_scan.specs.DistinctTexts.{texts_at}
use Rattle.fd_scan.proofs.CellValues.{label_cell_read, no_label}

values_read : (rows : List Numbered) (column : ℕ) (name : List ℕ) → slice_get (columns_of rows) column ≡ Some (label name) → (places : List ℕ) → texts_at (column_texts rows column) places ≡ flat_map (values_at name) (rows_at rows places)
values_read rows column name is [] = refl
values_read rows column name is (p ∷ ps) =
    ap (λ o. option_to_list o ++ texts_at (column_texts rows column) ps) (label_cell_read rows column p name is)
    ∙ ap (λ l. values_at name (row_at rows p) ++ l) (values_read rows column name is ps)

no_values : (rows : List Numbered) (name : List ℕ) → All (λ n. value_of n.row.labels.pairs name ≡ None) rows → (places : List ℕ) → flat_map (values_at name) (rows_at rows places) ≡ []
no_values rows name none [] = refl
no_values rows name none (p ∷ ps) =
    ap (λ o. option_to_list o ++ flat_map (values_at name) (rows_at rows ps)) (no_label rows p name none)
    ∙ no_values rows name none ps

-- the label has a column
pub values_more : (rows : List Numbered) (column : ℕ) (name : List ℕ) (before : List Row) (places : List ℕ) → slice_get (columns_of rows) column ≡ Some (label name) → distinct text_cmp (flat_map (values_at name) before ++ texts_at (column_texts rows column) places) ≡ label_values name (before ++ rows_at rows places)
values_more rows column name before places is =
    ap (distinct text_cmp)
    (ap (λ l. flat_map (values_at name) before ++ l) (values_read rows column name is places)
    ∙ sym (flat_map-append (values_at name) before (rows_at rows places)))

-- no row has the label
pub values_none : (rows : List Numbered) (name : List ℕ) (before : List Row) (places : List ℕ) → All (λ n. value_of n.row.labels.pairs name ≡ None) rows → label_values name before ≡ label_values name (before ++ rows_at rows places)
values_none rows name before places none =
    ap (distinct text_cmp)
    (sym
    (flat_map-append (values_at name) before (rows_at rows places)
    ∙ ap (λ l. flat_map (values_at name) before ++ l) (no_values rows name none places)
    ∙ append-nil (flat_map (values_at name) before)))
