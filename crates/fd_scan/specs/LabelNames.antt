-- Label names by the columns of labels.
use Rattle.std.specs.Prelude.{ℕ, Bool, is_some, if◌then◌else◌, List, [], ◌∷◌, take, drop, flat_map, slice_get, Option, Some, None, option_and_then, codes, bytes_eq}
use Rattle.std.specs.List.{list_any}
use Rattle.fd_kinds.specs.declared.row.Numbered.{Numbered}
use Rattle.fd_kinds.specs.LabelMaps.{value_of}
use Rattle.fd_dictionary.specs.Dictionaries.{Cells, cell_in}
use Rattle.fd_scan.specs.RowPlaces.{row_at}

-- the label of which a column has the values, by the column's name; none where the column is of another kind
abbrev pub label_of : List ℕ → Option (List ℕ)
label_of column = if bytes_eq (take 7 column) (codes "labels.") then Some (drop 7 column) else None

-- whether a cell at one of the places is there
abbrev pub any_cell : Cells → List ℕ → Bool
any_cell cells places = list_any (λ at. is_some (cell_in cells at)) places

-- the name as a list, and none where no cell at the places is there
abbrev pub where_there : Cells → List ℕ → List ℕ → List (List ℕ)
where_there cells places name = if any_cell cells places then name ∷ [] else []

-- whether a row at one of the places has the label
abbrev pub occurs : List Numbered → List ℕ → List ℕ → Bool
occurs rows places name = list_any (λ at. is_some (value_of (row_at rows at).labels.pairs name)) places

-- the name as a list, and none where no row at the places has the label
abbrev pub where_occurs : List Numbered → List ℕ → List ℕ → List (List ℕ)
where_occurs rows places name = if occurs rows places name then name ∷ [] else []

-- the same of a name, where there is one
abbrev pub where_found : List Numbered → List ℕ → Option (List ℕ) → List (List ℕ)
where_found rows places None = []
where_found rows places (Some name) = where_occurs rows places name

-- the label of the column at a place of their names
abbrev pub label_at : List (List ℕ) → ℕ → Option (List ℕ)
label_at columns at = option_and_then label_of (slice_get columns at)

-- the label of a column, where a row at the places has it
abbrev pub column_label : List Numbered → List ℕ → List ℕ → List (List ℕ)
column_label rows places column = where_found rows places (label_of column)

-- the labels that rows at the places have, by the columns
abbrev pub column_labels : List Numbered → List ℕ → List (List ℕ) → List (List ℕ)
column_labels rows places columns = flat_map (column_label rows places) columns
