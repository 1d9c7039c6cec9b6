-- The chunk of a column: the page of its dictionary, if it has one, and its data pages, one behind the other (Apache Parquet, README.md,
-- "Column chunks", and Encodings.md, "Dictionary Encoding").
use Rattle.std.specs.Prelude.{◌≡◌, ℕ, ◌+◌, ◌<◌, Bool, true, false, List, [], ◌∷◌, ◌++◌, length, drop, slice_range, All, IsUtf8}
use Rattle.fd_lists.specs.Texts.{text_cmp}
use Rattle.fd_kinds.specs.Meaning.{distinct}
use Rattle.fd_kinds.specs.declared.row.Numbered.{Numbered}
use Rattle.fd_column.specs.Cells.{Column, column_name}
use Rattle.fd_pages.specs.declared.cell.CellKind.{CellKind}
use Rattle.fd_pages.specs.declared.cell.Cell.{Cell}
use Rattle.fd_pages.specs.Pages.{IsPage, AddsPage}
use Rattle.fd_pages.specs.declared.cell.TheConstants.{MAX_ROWS}
use Rattle.fd_pages.specs.Dictionaries.{IsDictionary, IsCodePage, texts_in}
use Rattle.fd_footer.specs.declared.footer.Pages.{Pages}
use Rattle.fd_footer.specs.Tables.{has_dictionary}
use Rattle.fd_table_file.specs.Columns.{type_of, kind_of, is_required, file_column, cells_of, HasText}

-- ---- data pages

-- The bytes are the pages of the cells, each as `Is` says, and each page but the last has as many cells as a page may have.
abbrev pub AreFilled : (List Cell → List ℕ → Type 0) → List (List Cell) → List Cell → List ℕ → Type 0
AreFilled Is [] cells bytes = (cells ≡ []) × (bytes ≡ [])
AreFilled Is (front ∷ pages) cells bytes =
    (behind : List Cell) × (page : List ℕ) × (rest : List ℕ)
    × (cells ≡ front ++ behind)
    × (bytes ≡ page ++ rest)
    × Is front page
    × (length front < MAX_ROWS → behind ≡ [])
    × AreFilled Is pages behind rest

-- the same with pages of values
abbrev pub ArePages : CellKind → Bool → List (List Cell) → List Cell → List ℕ → Type 0
ArePages kind required pages cells bytes = AreFilled (IsPage kind required) pages cells bytes

-- the bytes are the data pages of these cells, with their values
pub record AreValuePages (kind : CellKind) (required : Bool) (cells : List Cell) (bytes : List ℕ) : Type 0 where
  pub pages : List (List Cell)
  pub spelled : ArePages kind required pages cells bytes

-- the bytes are the data pages of these cells, with indexes of these texts
pub record AreCodePages (required : Bool) (texts : List (List ℕ)) (cells : List Cell) (bytes : List ℕ) : Type 0 where
  pub pages : List (List Cell)
  pub spelled : AreFilled (IsCodePage required texts) pages cells bytes

-- ---- chunks, by whether they have a dictionary

-- the distinct texts of the cells, in order
abbrev pub dictionary_of : List Cell → List (List ℕ)
dictionary_of cells = distinct text_cmp (texts_in cells)

-- a chunk in two pieces: the page of its dictionary, if it has one, and its data pages
pub record Pieces : Type 0 where
  pub dictionary : List ℕ
  pub pages : List ℕ

abbrev pub piece_bytes : Pieces → List ℕ
piece_bytes pieces = pieces.dictionary ++ pieces.pages

-- the pieces of a chunk that has no dictionary
abbrev pub plain_pieces : List ℕ → Pieces
plain_pieces bytes = record { dictionary = []; pages = bytes }

-- what stands before the data pages: a chunk with a dictionary has that of its texts, where there are cells at all
abbrev pub IsBefore : Bool → List Cell → List ℕ → Type 0
IsBefore false cells bytes = bytes ≡ []
IsBefore true [] bytes = bytes ≡ []
IsBefore true (cell ∷ cells) bytes = IsDictionary (dictionary_of (cell ∷ cells)) bytes

-- cells stand by their values, or by the indexes of their texts in the dictionary
abbrev pub IsData : Bool → CellKind → Bool → List Cell → List ℕ → Type 0
IsData false kind required cells bytes = AreValuePages kind required cells bytes
IsData true kind required cells bytes = AreCodePages required (dictionary_of cells) cells bytes

-- these pieces are the chunk of these cells
pub record IsChunk (dictionary : Bool) (kind : CellKind) (required : Bool) (cells : List Cell) (pieces : Pieces) : Type 0 where
  pub before : IsBefore dictionary cells pieces.dictionary
  pub data_pages : IsData dictionary kind required cells pieces.pages

-- these pieces are the chunk of a column of the rows in a file with such pages, and its name and its cells are texts
pub record IsChunkOf (pages : Pages) (rows : List Numbered) (c : Column) (pieces : Pieces) : Type 0 where
  pub name : IsUtf8 (column_name c)
  pub texts : All (HasText (file_column c)) (cells_of c rows)
  pub chunk : IsChunk (has_dictionary pages (type_of c)) (kind_of c) (is_required c) (cells_of c rows) pieces

-- ---- writing the data pages of a column with their values

-- new is old with the page of so many rows of a column from a place on behind it
pub record AddsPageOf (rows : List Numbered) (c : Column) (from count : ℕ) (old new : List ℕ) : Type 0 where
  pub page : AddsPage (kind_of c) (is_required c) (slice_range (cells_of c rows) from (from + count)) old new

-- new is old with the pages of the cells before a place behind it: the pages of those from there on go on with the pages of all
pub record Continues (rows : List Numbered) (c : Column) (from : ℕ) (old new : List ℕ) : Type 0 where
  pub written : List ℕ
  pub whole : new ≡ old ++ written
  pub goes : (rest : List ℕ) → AreValuePages (kind_of c) (is_required c) (drop from (cells_of c rows)) rest → AreValuePages (kind_of c) (is_required c) (cells_of c rows) (written ++ rest)

-- new is old with the data pages of a column of the rows behind it
pub record AddsPagesOf (rows : List Numbered) (c : Column) (old new : List ℕ) : Type 0 where
  pub bytes : List ℕ
  pub are : AreValuePages (kind_of c) (is_required c) (cells_of c rows) bytes
  pub whole : new ≡ old ++ bytes

-- ---- reading data pages

-- some bytes in front are the data pages of so many cells with their values, and this is the rest
pub record BeginsCells (kind : CellKind) (required : Bool) (count : ℕ) (bytes : List ℕ) (cells : List Cell) (rest : List ℕ) : Type 0 where
  pub front : List ℕ
  pub whole : bytes ≡ front ++ rest
  pub counted : length cells ≡ count
  pub data_pages : AreValuePages kind required cells front
