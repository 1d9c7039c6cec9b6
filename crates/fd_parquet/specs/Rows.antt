-- The rows that cells tell, column by column.
use Rattle.std.specs.Prelude.{◌≡◌, ℕ, ℤ, pos, ◌==◌, if◌then◌else◌, true, false, nat_lt, List, [], ◌∷◌, Option, Some, None, slice_get, unwrap_or, codes}
use Rattle.std.specs.List.{cons_option, list_all}
use Rattle.std.specs.Ordering.{is_lt}
use Rattle.fd_kinds.specs.declared.pair.Pair.{Pair}
use Rattle.fd_kinds.specs.declared.labels.Labels.{Labels}
use Rattle.fd_kinds.specs.declared.row.Row.{Row}
use Rattle.fd_kinds.specs.declared.row.Numbered.{Numbered}
use Rattle.fd_column.specs.LabelColumns.{labels_from}
use Rattle.fd_column.specs.RowNumbers.{numbered_cmp}
use Rattle.fd_column.specs.Stacks.{frames_of}
use Rattle.fd_pages.specs.declared.cell.Cell.{Cell}
use Rattle.fd_pages.specs.declared.cell.Cell.TheVariants.{Absent, Whole, Bytes}
use Rattle.fd_footer.specs.declared.footer.Column.{Column}

-- the cell of a row in a column, by their places
abbrev pub cell_in : List (List Cell) → ℕ → ℕ → Option Cell
cell_in cells column at = slice_get (unwrap_or (slice_get cells column) []) at

-- its number, 0 where it has none
abbrev pub cell_number : Option Cell → ℤ
cell_number None = pos 0
cell_number (Some Absent) = pos 0
cell_number (Some (Whole n)) = n
cell_number (Some (Bytes bytes)) = pos 0

-- its bytes, where it has some
abbrev pub cell_bytes : Option Cell → Option (List ℕ)
cell_bytes None = None
cell_bytes (Some Absent) = None
cell_bytes (Some (Whole n)) = None
cell_bytes (Some (Bytes bytes)) = Some bytes

-- its text, which is empty where it has no bytes
abbrev pub text_in : List (List Cell) → ℕ → ℕ → List ℕ
text_in cells column at = unwrap_or (cell_bytes (cell_in cells column at)) []

-- what follows a prefix
abbrev pub behind : List ℕ → List ℕ → Option (List ℕ)
behind [] name = Some name
behind (p ∷ prefix) [] = None
behind (p ∷ prefix) (b ∷ name) = if p == b then behind prefix name else None

-- Such prefixes stand before the names of labels: they are ASCII, and the column of stacks has none of them.
pub record NamesLabels (prefix : List ℕ) : Type 0 where
  pub ascii : list_all (λ b. nat_lt b 128) prefix ≡ true
  pub other : behind prefix (codes "stack") ≡ None

-- a label's name and its value, where both are there
abbrev pub pair_of : Option (List ℕ) → Option (List ℕ) → Option Pair
pair_of None value = None
pair_of (Some name) None = None
pair_of (Some name) (Some value) = Some (record { name = name; value = value })

-- the pairs of a row, from the columns whose names have this prefix and the lists of their cells
abbrev pub pairs_in : List ℕ → List Column → List (List Cell) → ℕ → List Pair
pairs_in prefix [] cells at = []
pairs_in prefix (c ∷ columns) [] at = []
pairs_in prefix (c ∷ columns) (list ∷ cells) at =
    cons_option (pair_of (behind prefix c.name) (cell_bytes (slice_get list at))) (pairs_in prefix columns cells at)

-- the labels of a row; pairs that are out of order give none
abbrev pub labels_in : List ℕ → List Column → List (List Cell) → ℕ → Labels
labels_in prefix columns cells at = labels_from (pairs_in prefix columns cells at)

-- the row at a place
abbrev pub row_in : List Column → List (List Cell) → ℕ → Row
row_in columns cells at = record {
  name = text_in cells 1 at;
  sample_type = text_in cells 2 at;
  sample_unit = text_in cells 3 at;
  period_type = text_in cells 4 at;
  period_unit = text_in cells 5 at;
  labels = labels_in (codes "labels.") columns cells at;
  timestamp = cell_number (cell_in cells 6 at);
  stack = frames_of (text_in cells 7 at);
  pprof_labels = labels_in (codes "pprof_labels.") columns cells at;
  period = cell_number (cell_in cells 8 at);
  duration = cell_number (cell_in cells 9 at);
  value = cell_number (cell_in cells 10 at);
}

-- a row that is not below the last one, if there is one
abbrev pub MayFollow : Option Numbered → Numbered → Type 0
MayFollow None row = Unit {0}
MayFollow (Some last) row = is_lt (numbered_cmp row last) ≡ false
