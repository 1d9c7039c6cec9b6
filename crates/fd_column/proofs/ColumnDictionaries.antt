-- A column of texts as a whole.
use Rattle.std.proofs.Common.{◌≡◌, ℕ, zero, suc, ◌-◌, ◌<◌, ◌≤◌, true, Bor, List, [], ◌∷◌, map, length, refl, sym, ◌∙◌, ap, subst}
use Rattle.std.specs.Prelude.{Option, Some, None, option_map, is_some, slice_get, IfSome}
use Rattle.std.specs.Option.{option_copied}
use Rattle.fd_kinds.specs.declared.pair.Pair.{Pair}
use Rattle.fd_kinds.specs.declared.row.Numbered.{Numbered}
use Rattle.fd_kinds.specs.LabelMaps.{value_of}
use Rattle.fd_column.specs.declared.table.LabelColumn.{LabelColumn}
use Rattle.fd_column.specs.declared.table.Table.{Table}
use Rattle.fd_dictionary.specs.Dictionaries.{Cells}
use Rattle.fd_column.specs.Cells.{Column, label, pprof_label, cell_of, label_cell, columns_of, meeting, text_in, has_texts, names_in, series_pairs, pprof_pairs}
use Rattle.fd_column.specs.LabelColumns.{label_column}
use Rattle.fd_column.specs.Tables.{IsTableOf}
use Rattle.fd_column.proofs.CellLaws.{text_of_label, behind, count_is, slice_get_left, slice_get_right}

-- the texts of a column by what it is
abbrev pub texts_of : List Numbered → Option Column → Cells
texts_of rows column = map (λ row. text_in (meeting column (Some row))) rows

values_are : (make : List ℕ → Column) (pairs_of : Numbered → List Pair) → ((name : List ℕ) (n : Numbered) → cell_of (make name) n ≡ label_cell (value_of (pairs_of n) name)) → (name : List ℕ) (rows : List Numbered) → map (λ pairs. value_of pairs name) (map pairs_of rows) ≡ texts_of rows (Some (make name))
values_are make pairs_of cells name [] = refl
values_are make pairs_of cells name (n ∷ rows) =
    let first = sym (text_of_label (value_of (pairs_of n) name)) ∙ ap text_in (sym (cells name n)) in
    let others = values_are make pairs_of cells name rows in
    λ i. first i ∷ others i

-- the cells of a labelled column, none where there is no such column
abbrev pub found : List (LabelColumn Cells) → ℕ → Option Cells
found columns k = option_map (λ labelled. labelled.cells) (slice_get columns k)

-- what is found of a column of labels
pub record IsFound (rows : List Numbered) (column : Option Column) (o : Option Cells) : Type 0 where
  pub kind : is_some o ≡ has_texts column
  pub cells : IfSome o (λ cells. cells ≡ texts_of rows column)

labelled_found : (make : List ℕ → Column) (pairs_of : Numbered → List Pair) → ((name : List ℕ) (n : Numbered) → cell_of (make name) n ≡ label_cell (value_of (pairs_of n) name)) → ((name : List ℕ) → has_texts (Some (make name)) ≡ true) → (rows : List Numbered) (names : List (List ℕ)) (k : ℕ) → IsFound rows (slice_get (map make names) k) (found (map (label_column (map pairs_of rows)) names) k)
labelled_found make pairs_of cells texts rows [] k = record { kind = refl; cells = tt }
labelled_found make pairs_of cells texts rows (name ∷ names) zero = record { kind = sym (texts name); cells = values_are make pairs_of cells name rows }
labelled_found make pairs_of cells texts rows (name ∷ names) (suc k) = labelled_found make pairs_of cells texts rows names k

pub series_found : (t : Table Cells) (rows : List Numbered) (column : ℕ) → IsTableOf t rows → 11 ≤ column → column - 11 < length t.labels → IsFound rows (slice_get (columns_of rows) column) (found t.labels (column - 11))
series_found t rows column is h inside =
    rw (behind rows column (column - 11) h refl ∙ slice_get_left (map label (names_in (series_pairs rows))) (map pprof_label (names_in (pprof_pairs rows))) (column - 11) (rw (sym (count_is t rows is)) inside), is.labels) (labelled_found label (λ n. n.row.labels.pairs) (λ name n. refl) (λ name. refl) rows (names_in (series_pairs rows)) (column - 11))

pub pprof_found : (t : Table Cells) (rows : List Numbered) (column : ℕ) → IsTableOf t rows → 11 ≤ column → length t.labels ≤ column - 11 → IsFound rows (slice_get (columns_of rows) column) (found t.pprof_labels (column - 11 - length t.labels))
pprof_found t rows column is h past =
    rw (behind rows column (column - 11) h refl ∙ slice_get_right (map label (names_in (series_pairs rows))) (map pprof_label (names_in (pprof_pairs rows))) (column - 11) (rw (sym (count_is t rows is)) past) ∙ ap (λ count. slice_get (map pprof_label (names_in (pprof_pairs rows))) (column - 11 - count)) (sym (count_is t rows is)), is.pprof_labels) (labelled_found pprof_label (λ n. n.row.pprof_labels.pairs) (λ name n. refl) (λ name. refl) rows (names_in (pprof_pairs rows)) (column - 11 - length t.labels))

-- the same of a reference to what is found
pub kind_of_copied : {X : Type 0} (r : Option (Bor X)) (o : Option X) → option_copied r ≡ o → is_some r ≡ is_some o
kind_of_copied None o is = ap is_some is
kind_of_copied (Some x) o is = ap is_some is

pub cells_of_copied : {X : Type 0} (P : X → Type 0) (r : Option (Bor X)) (o : Option X) → option_copied r ≡ o → IfSome o P → IfSome r (λ x. P x.now)
cells_of_copied P None o is h = tt
cells_of_copied P (Some x) o is h = subst (λ o. IfSome o P) (sym is) h
