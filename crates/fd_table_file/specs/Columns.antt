-- The columns of a table as columns of a file: their cells, what these hold, and which of them are texts.
use Rattle.std.specs.Prelude.{◌≡◌, ℕ, ◌+◌, ◌<◌, ◌≤◌, if◌then◌else◌, Bool, true, false, List, [], ◌∷◌, ◌++◌, length, take, get_or, map, slice_get, All, Some, unwrap_or, codes, IsUtf8}
use Rattle.std.specs.Str.{bytes_eq}
use Rattle.fd_kinds.specs.declared.row.Numbered.{Numbered}
use Rattle.fd_column.specs.Cells.{Column, number, label, pprof_label, cell_of, column_name, column_names, columns_of, has_texts, absent, text, whole}
use Rattle.fd_column.specs.Cells.{Cell as TableCell}
use Rattle.fd_column.specs.Stacks.{stack_bytes, AreShort}
use Rattle.fd_pages.specs.declared.cell.CellKind.{CellKind}
use Rattle.fd_pages.specs.declared.cell.CellKind.TheVariants.{Whole as WholeKind, Bytes as BytesKind}
use Rattle.fd_pages.specs.declared.cell.Cell.{Cell}
use Rattle.fd_pages.specs.declared.cell.Cell.TheVariants.{Absent, Whole, Bytes}
use Rattle.fd_footer.specs.declared.footer.ColumnType.{ColumnType}
use Rattle.fd_footer.specs.declared.footer.ColumnType.TheVariants.{Int64, ByteArray}
use Rattle.fd_footer.specs.declared.footer.Column.{Column as FileColumn}

-- the physical type: INT64 for numbers, and BYTE_ARRAY for texts and stacks
abbrev pub type_of : Column → ColumnType
type_of c = if has_texts (Some c) then ByteArray else Int64

-- the cells that a type has
abbrev pub kind_in : ColumnType → CellKind
kind_in Int64 = WholeKind
kind_in ByteArray = BytesKind

abbrev pub kind_of : Column → CellKind
kind_of c = kind_in (type_of c)

-- the fixed columns are required, and those of labels optional
abbrev pub is_required : Column → Bool
is_required (label name) = false
is_required (pprof_label name) = false
is_required c = true

-- the column as a footer tells it
abbrev pub file_column : Column → FileColumn
file_column c = record { name = column_name c; column_type = type_of c; required = is_required c }

abbrev pub file_cell : TableCell → Cell
file_cell absent = Absent
file_cell (text bytes) = Bytes bytes
file_cell (whole n) = Whole n

-- the cells of a column, one for each row
unfoldable pub cells_of : Column → List Numbered → List Cell
cells_of c rows = map (λ row. file_cell (cell_of c row)) rows

-- how many columns there are
unfoldable pub column_count : List Numbered → ℕ
column_count rows = length (column_names rows)

-- the column at a place, which is among the columns
unfoldable pub column_at : List Numbered → ℕ → Column
column_at rows at = unwrap_or (slice_get (columns_of rows) at) number

-- the columns of a table by their places: those before a place and one more, all of them, and their names
pub record ColumnsHavePlaces : Type 0 where
  pub more : (rows : List Numbered) (k : ℕ) → k < column_count rows → take (k + 1) (columns_of rows) ≡ take k (columns_of rows) ++ column_at rows k ∷ []
  pub all : (rows : List Numbered) (k : ℕ) → column_count rows ≤ k → take k (columns_of rows) ≡ columns_of rows
  pub names : (rows : List Numbered) (k : ℕ) → k < column_count rows → get_or (column_names rows) k [] ≡ column_name (column_at rows k)

-- frames of text, each behind its length
pub record IsStack (bytes : List ℕ) : Type 0 where
  pub frames : List (List ℕ)
  pub texts : All IsUtf8 frames
  pub short : AreShort frames
  pub spelled : bytes ≡ stack_bytes frames

-- whether the bytes of a column are stacks
abbrev pub has_stacks : FileColumn → Bool
has_stacks f = bytes_eq f.name (codes "stack")

-- a text in UTF-8, which is not empty where it is a label's
pub record IsText (required : Bool) (bytes : List ℕ) : Type 0 where
  pub utf8 : IsUtf8 bytes
  pub some : required ≡ false → 0 < length bytes

abbrev pub IsContent : Bool → Bool → List ℕ → Type 0
IsContent true required bytes = IsStack bytes
IsContent false required bytes = IsText required bytes

-- bytes are those of a text or of a stack, by the column
abbrev pub HasText : FileColumn → Cell → Type 0
HasText f Absent = Unit {0}
HasText f (Whole n) = Unit {0}
HasText f (Bytes bytes) = IsContent (has_stacks f) f.required bytes
