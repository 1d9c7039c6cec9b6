-- Rows whose cells are the same in each column of labels.
use Rattle.std.proofs.Common.{◌≡◌, ℕ, Bool, List, [], ◌∷◌, map, refl, sym, ◌∙◌, ap, subst, get_or}
use Rattle.std.specs.Prelude.{Option, Some, None, option_map, slice_get, All, Decides}
use Rattle.std.specs.Option.{option_and_then}
use Rattle.std.specs.List.{cons_option}
use Rattle.std.proofs.lemmas.Option.{slice_get-map, same_Some}
use Rattle.std.proofs.lemmas.List.Elements.{All-head, All-tail, All-map}
use Rattle.fd_kinds.specs.declared.row.Numbered.{Numbered}
use Rattle.fd_kinds.specs.LabelMaps.{value_of}
use Rattle.fd_kinds.proofs.RowLaws.{same_labels_of_pairs}
use Rattle.fd_column.specs.declared.table.LabelColumn.{LabelColumn}
use Rattle.fd_column.specs.declared.table.Table.{Table}
use Rattle.fd_dictionary.specs.Dictionaries.{Cells, cell_in}
use Rattle.fd_column.specs.Cells.{names_in, series_pairs, labels_in}
use Rattle.fd_column.specs.LabelColumns.{label_column, pair_at, pairs_at}
use Rattle.fd_column.specs.RowNumbers.{renumber, renumbered}
use Rattle.fd_column.specs.Tables.{IsTableOf}
use Rattle.fd_column.proofs.NumberLaws.{there_kept}
use Rattle.fd_column.proofs.TableLaws.{labels_back, row_labels}

-- ---- rows

abbrev AreSame : ℕ → ℕ → List (LabelColumn Cells) → Type 0
AreSame a b columns = All (λ c. cell_in c.cells a ≡ cell_in c.cells b) columns

same_pairs : (columns : List (LabelColumn Cells)) (a b : ℕ) → AreSame a b columns → pairs_at columns a ≡ pairs_at columns b
same_pairs [] a b same = refl
same_pairs (c ∷ cs) a b same =
    let first : pair_at a c ≡ pair_at b c = ap (option_map (λ value. record { name = c.name; value = value })) (All-head (λ x. cell_in x.cells a ≡ cell_in x.cells b) c cs same) in
    let others : pairs_at cs a ≡ pairs_at cs b = same_pairs cs a b (All-tail (λ x. cell_in x.cells a ≡ cell_in x.cells b) c cs same) in
    λ i. cons_option (first i) (others i)

value_there : (rows : List Numbered) (at : ℕ) (n : Numbered) (name : List ℕ) → slice_get rows at ≡ Some n → cell_in (label_column (series_pairs rows) name).cells at ≡ value_of n.row.labels.pairs name
value_there rows at n name there =
    ap (λ o. option_and_then (λ cell. cell) o)
    (slice_get-map (λ pairs. value_of pairs name) (series_pairs rows) at
    ∙ ap (option_map (λ pairs. value_of pairs name)) (labels_back (λ m. m.row.labels.pairs) rows at n there))

same_values : (rows : List Numbered) (a b : ℕ) (m n : Numbered) (names : List (List ℕ)) → slice_get rows a ≡ Some m → slice_get rows b ≡ Some n → m.row.labels ≡ n.row.labels → AreSame a b (map (label_column (series_pairs rows)) names)
same_values rows a b m n names ha hb e =
    All-map (λ c. cell_in c.cells a ≡ cell_in c.cells b) (label_column (series_pairs rows)) names
    (λ k d inside.
    value_there rows a m (get_or names k d) ha
    ∙ ap (λ labels. value_of labels.pairs (get_or names k d)) e
    ∙ sym (value_there rows b n (get_or names k d) hb))

-- two rows have the same cells in all columns of labels where they have the same labels
pub same_cells : (t : Table Cells) (rows : List Numbered) (a b : ℕ) (m n : Numbered) (r : Bool) → IsTableOf t rows → slice_get rows a ≡ Some m → slice_get rows b ≡ Some n → Decides r (AreSame a b t.labels) → Decides r (labels_in rows a ≡ labels_in rows b)
same_cells t rows a b m n r is ha hb decides = (
  λ e. ap (option_map (λ row. row.row.labels)) ha
      ∙ ap Some (same_labels_of_pairs m.row.labels n.row.labels (sym (row_labels t rows a m is ha) ∙ same_pairs t.labels a b (decides.0 e) ∙ row_labels t rows b n is hb))
      ∙ sym (ap (option_map (λ row. row.row.labels)) hb),
  λ e. decides.1
      (subst (AreSame a b) (sym is.labels)
      (same_values rows a b m n (names_in (series_pairs rows)) ha hb
      (same_Some m.row.labels n.row.labels (sym (ap (option_map (λ row. row.row.labels)) ha) ∙ e ∙ ap (option_map (λ row. row.row.labels)) hb)))),
)

-- ---- rows that are given a number

labels_of_given : (g : Option ℕ) (o : Option Numbered) → option_map (λ row. row.row.labels) o ≡ option_map (λ row. row.row.labels) (option_map (renumber g) o)
labels_of_given g None = refl
labels_of_given g (Some n) = refl

pub labels_kept : (g : Option ℕ) (rows shown : List Numbered) (at : ℕ) → renumbered g rows ≡ shown → labels_in rows at ≡ labels_in shown at
labels_kept g rows shown at e =
    labels_of_given g (slice_get rows at) ∙ ap (option_map (λ row. row.row.labels)) (there_kept g rows shown at e)

pub same_labels_kept : (g : Option ℕ) (rows shown : List Numbered) (a b : ℕ) (r : Bool) → renumbered g rows ≡ shown → Decides r (labels_in rows a ≡ labels_in rows b) → Decides r (labels_in shown a ≡ labels_in shown b)
same_labels_kept g rows shown a b r e decides = (
  λ is. sym (labels_kept g rows shown a e) ∙ decides.0 is ∙ labels_kept g rows shown b e,
  λ is. decides.1 (labels_kept g rows shown a e ∙ is ∙ sym (labels_kept g rows shown b e)),
)
