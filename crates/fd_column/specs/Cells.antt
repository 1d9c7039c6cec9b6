-- The table of numbered rows: for each concrete column its optional values.
use Rattle.std.specs.Prelude.{ℕ, ℤ, Bool, true, false, pos, List, [], ◌∷◌, ◌++◌, map, flat_map, slice_get, Option, Some, None, option_map, codes}
use Rattle.fd_kinds.specs.declared.pair.Pair.{Pair}
use Rattle.fd_kinds.specs.declared.labels.Labels.{Labels}
use Rattle.fd_kinds.specs.declared.row.Numbered.{Numbered}
use Rattle.fd_kinds.specs.LabelMaps.{value_of}
use Rattle.fd_kinds.specs.Meaning.{distinct}
use Rattle.fd_lists.specs.Texts.{text_cmp}
use Rattle.fd_column.specs.Stacks.{stack_bytes}

pub data Column : Type 0 where
  number : Column
  name : Column
  sample_type : Column
  sample_unit : Column
  period_type : Column
  period_unit : Column
  timestamp : Column
  stack : Column
  period : Column
  duration : Column
  value : Column
  label : List ℕ → Column
  pprof_label : List ℕ → Column

pub data Cell : Type 0 where
  absent : Cell
  text : List ℕ → Cell
  whole : ℤ → Cell

-- the concrete name of a column
abbrev pub column_name : Column → List ℕ
column_name number = codes "_tx"
column_name name = codes "name"
column_name sample_type = codes "sample_type"
column_name sample_unit = codes "sample_unit"
column_name period_type = codes "period_type"
column_name period_unit = codes "period_unit"
column_name timestamp = codes "timestamp"
column_name stack = codes "stack"
column_name period = codes "period"
column_name duration = codes "duration"
column_name value = codes "value"
column_name (label n) = codes "labels." ++ n
column_name (pprof_label n) = codes "pprof_labels." ++ n

-- the value of a label, absent where a row does not have it
abbrev pub label_cell : Option (List ℕ) → Cell
label_cell None = absent
label_cell (Some v) = text v

-- what a row has in a column
abbrev pub cell_of : Column → Numbered → Cell
cell_of number n = whole (pos n.number)
cell_of name n = text n.row.name
cell_of sample_type n = text n.row.sample_type
cell_of sample_unit n = text n.row.sample_unit
cell_of period_type n = text n.row.period_type
cell_of period_unit n = text n.row.period_unit
cell_of timestamp n = whole n.row.timestamp
cell_of stack n = text (stack_bytes n.row.stack)
cell_of period n = whole n.row.period
cell_of duration n = whole n.row.duration
cell_of value n = whole n.row.value
cell_of (label l) n = label_cell (value_of n.row.labels.pairs l)
cell_of (pprof_label l) n = label_cell (value_of n.row.pprof_labels.pairs l)

-- the names that occur in lists of pairs, each once, in byte order
abbrev pub names_in : List (List Pair) → List (List ℕ)
names_in maps = distinct text_cmp (flat_map (λ pairs. map (λ pair. pair.name) pairs) maps)

abbrev pub series_pairs : List Numbered → List (List Pair)
series_pairs rows = map (λ n. n.row.labels.pairs) rows

abbrev pub pprof_pairs : List Numbered → List (List Pair)
pprof_pairs rows = map (λ n. n.row.pprof_labels.pairs) rows

abbrev pub fixed_columns : List Column
fixed_columns =
    number ∷ name ∷ sample_type ∷ sample_unit ∷ period_type ∷ period_unit ∷ timestamp ∷ stack ∷ period ∷ duration ∷ value ∷ []

-- the fixed columns, and one for each label name that occurs
abbrev pub columns_of : List Numbered → List Column
columns_of rows = fixed_columns ++ (map label (names_in (series_pairs rows)) ++ map pprof_label (names_in (pprof_pairs rows)))

-- the concrete names of the columns, in order
abbrev pub column_names : List Numbered → List (List ℕ)
column_names rows = map column_name (columns_of rows)

abbrev pub meeting : Option Column → Option Numbered → Cell
meeting (Some column) (Some row) = cell_of column row
meeting column row = absent

-- the cell of a column and a row, by their places
abbrev pub cell_at : List Numbered → ℕ → ℕ → Cell
cell_at rows column at = meeting (slice_get (columns_of rows) column) (slice_get rows at)

abbrev pub text_in : Cell → Option (List ℕ)
text_in (text bytes) = Some bytes
text_in cell = None

abbrev pub whole_in : Cell → Option ℤ
whole_in (whole n) = Some n
whole_in cell = None

-- whether the cells of a column are texts, by its place
abbrev pub has_texts : Option Column → Bool
has_texts None = false
has_texts (Some number) = false
has_texts (Some timestamp) = false
has_texts (Some period) = false
has_texts (Some duration) = false
has_texts (Some value) = false
has_texts (Some column) = true

abbrev pub is_text_column : List Numbered → ℕ → Bool
is_text_column rows column = has_texts (slice_get (columns_of rows) column)

-- the texts of a column, one for each row
abbrev pub column_texts : List Numbered → ℕ → List (Option (List ℕ))
column_texts rows column = map (λ row. text_in (meeting (slice_get (columns_of rows) column) (Some row))) rows

-- the labels of the series of the row at a place, none where there is no row
abbrev pub labels_in : List Numbered → ℕ → Option Labels
labels_in rows at = option_map (λ row. row.row.labels) (slice_get rows at)
