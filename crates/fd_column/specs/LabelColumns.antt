-- Columns of labels.
use Rattle.std.specs.Prelude.{refl, ℕ, suc, if◌then◌else◌, List, [], ◌∷◌, ◌++◌, map, fold, replicate, slice_get, Option, Some, None, option_map, option_and_then}
use Rattle.std.specs.List.{filter_map}
use Rattle.std.specs.Ordering.{is_eq, match_ordering}
use Rattle.fd_kinds.specs.declared.pair.Pair.{Pair}
use Rattle.fd_kinds.specs.declared.labels.Labels.{Labels}
use Rattle.fd_kinds.specs.Labels.{are_labels}
use Rattle.fd_kinds.specs.LabelMaps.{value_of}
use Rattle.fd_kinds.specs.LabelsOf.{with_pairs}
use Rattle.fd_lists.specs.Texts.{text_cmp}
use Rattle.fd_column.specs.declared.table.LabelColumn.{LabelColumn}
use Rattle.fd_dictionary.specs.Dictionaries.{Cells, cell_in}
use Rattle.fd_column.specs.Cells.{names_in}

-- the values of a name
abbrev pub label_column : List (List Pair) → List ℕ → LabelColumn Cells
label_column maps name = record { name = name; cells = map (λ pairs. value_of pairs name) maps }

-- one column for each name that occurs
abbrev pub label_columns : List (List Pair) → List (LabelColumn Cells)
label_columns maps = map (label_column maps) (names_in maps)

-- a column of absent cells
abbrev pub blank : ℕ → List ℕ → LabelColumn Cells
blank count name = record { name = name; cells = replicate count None }

-- Adds a column of absent cells in order of the names, where the name has none.
abbrev pub add_column : ℕ → List (LabelColumn Cells) → List ℕ → List (LabelColumn Cells)
add_column count [] name = blank count name ∷ []
add_column count (c ∷ cs) name = match_ordering (text_cmp name c.name) (blank count name ∷ c ∷ cs) (c ∷ cs) (c ∷ add_column count cs name)

abbrev pub add_columns : ℕ → List (LabelColumn Cells) → List Pair → List (LabelColumn Cells)
add_columns count columns pairs = fold (add_column count) columns (map (λ pair. pair.name) pairs)

-- the column with the value of its name among the pairs
abbrev pub with_value : List Pair → LabelColumn Cells → LabelColumn Cells
with_value pairs column = record { name = column.name; cells = column.cells ++ value_of pairs column.name ∷ [] }

-- the pair that a column has at a place, none where its cell is absent
abbrev pub pair_at : ℕ → LabelColumn Cells → Option Pair
pair_at at column = option_map (λ value. record { name = column.name; value = value }) (cell_in column.cells at)

abbrev pub pairs_at : List (LabelColumn Cells) → ℕ → List Pair
pairs_at columns at = filter_map (pair_at at) columns

-- the labels of these pairs; pairs that are none give the empty labels
abbrev pub labels_from : List Pair → Labels
labels_from pairs = with_pairs pairs (are_labels pairs) refl

-- the place of the first column of this name
abbrev pub place_of : List ℕ → List (LabelColumn Cells) → Option ℕ
place_of name [] = None
place_of name (c ∷ cs) = if is_eq (text_cmp name c.name) then Some 0 else option_map (λ place. suc place) (place_of name cs)

abbrev pub labelled_cell : List (LabelColumn Cells) → ℕ → ℕ → Option (List ℕ)
labelled_cell columns column at = option_and_then (λ c. cell_in c.cells at) (slice_get columns column)
