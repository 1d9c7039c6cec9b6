-- The pages of a chunk with a dictionary: the page of its texts, and pages with indexes in place of texts (Apache Parquet, README.md,
-- "Data Pages", and Encodings.md, "Dictionary Encoding").
use Rattle.std.specs.Prelude.{◌≡◌, ℕ, ◌<◌, ◌≤◌, ◌^◌, pos, Bool, true, false, List, [], ◌∷◌, ◌++◌, length, map, slice_get, Some, All}
use Rattle.std.specs.List.{AllZip, flat_map}
use Rattle.std.specs.List.Sorted.{IsStrictlySortedBy}
use Rattle.fd_lists.specs.Texts.{text_cmp}
use Rattle.fd_thrift.specs.Values.{Value, whole32, struct, no_fields, field}
use Rattle.fd_thrift.specs.Format.{spelling}
use Rattle.fd_hybrid.specs.Format.{IsSpelling}
use Rattle.fd_pages.specs.declared.cell.CellKind.TheVariants.{Bytes as BytesKind}
use Rattle.fd_pages.specs.declared.cell.Cell.{Cell}
use Rattle.fd_pages.specs.declared.cell.Cell.TheVariants.{Absent, Whole, Bytes}
use Rattle.fd_pages.specs.Columns.{IsOfColumn, sized, level}
use Rattle.fd_pages.specs.Pages.{plain_encoding, page_header_in}
use Rattle.fd_pages.specs.declared.cell.TheConstants.{MAX_ROWS}

-- The numbers of parquet.thrift: PageType DICTIONARY_PAGE, and Encoding RLE_DICTIONARY.
abbrev pub dictionary_page : ℕ
dictionary_page = 2

abbrev pub dictionary_encoding : ℕ
dictionary_encoding = 8

-- DictionaryPageHeader: 1 num_values; 2 encoding
abbrev pub dictionary_page_header : ℕ → Value
dictionary_page_header count = struct
    (field (pos 1) (whole32 (pos count))
    (field (pos 2) (whole32 (pos plain_encoding))
    no_fields))

-- PageHeader: 1 type; 2 uncompressed_page_size and 3 compressed_page_size; 7 dictionary_page_header
abbrev pub dictionary_header : ℕ → ℕ → Value
dictionary_header count size = struct
    (field (pos 1) (whole32 (pos dictionary_page))
    (field (pos 2) (whole32 (pos size))
    (field (pos 3) (whole32 (pos size))
    (field (pos 7) (dictionary_page_header count)
    no_fields))))

-- the header of a dictionary of so many texts and so many bytes
unfoldable pub dictionary_header_bytes : ℕ → ℕ → List ℕ
dictionary_header_bytes count size = spelling (dictionary_header count size)

-- the header of a page of so many indexes, absent cells among them, and so many bytes in its body
unfoldable pub code_header_bytes : ℕ → ℕ → List ℕ
code_header_bytes count size = spelling (page_header_in dictionary_encoding count size)

-- texts of which each is below those after it by its bytes
abbrev pub AreRising : List (List ℕ) → Type 0
AreRising texts = IsStrictlySortedBy text_cmp texts

-- the texts with their lengths
unfoldable pub dictionary_body : List (List ℕ) → List ℕ
dictionary_body texts = flat_map sized texts

-- the bytes are the page of a dictionary of these texts
pub record IsDictionary (texts : List (List ℕ)) (page : List ℕ) : Type 0 where
  pub rising : AreRising texts
  pub fit : All (λ text. length text < 2 ^ 32) texts
  pub few : length texts < 2 ^ 31
  pub small : length (dictionary_body texts) < 2 ^ 31
  pub whole : page ≡ dictionary_header_bytes (length texts) (length (dictionary_body texts)) ++ dictionary_body texts

-- the texts that are there
abbrev pub texts_in : List Cell → List (List ℕ)
texts_in [] = []
texts_in (Absent ∷ cells) = texts_in cells
texts_in (Whole number ∷ cells) = texts_in cells
texts_in (Bytes bytes ∷ cells) = bytes ∷ texts_in cells

-- the least number of bits, and at least 1, that holds each index of so many texts
pub record IsWidth (count width : ℕ) : Type 0 where
  pub some : 1 ≤ width
  pub holds : count ≤ 2 ^ width
  pub least : (other : ℕ) → 1 ≤ other → count ≤ 2 ^ other → width ≤ other

-- the indexes of the cells' texts, in hybrid runs behind one byte that tells their width
pub record AreIndexes (texts : List (List ℕ)) (cells : List Cell) (bytes : List ℕ) : Type 0 where
  pub width : ℕ
  pub wide : IsWidth (length texts) width
  pub indexes : List ℕ
  pub are : AllZip (λ index text. slice_get texts index ≡ Some text) indexes (texts_in cells)
  pub runs : List ℕ
  pub spelled : IsSpelling width indexes runs
  pub whole : bytes ≡ width ∷ runs

-- The body: in an optional column first the definition levels with their length before them; then the indexes.
abbrev pub IsCodeBody : Bool → List (List ℕ) → List Cell → List ℕ → Type 0
IsCodeBody true texts cells body = AreIndexes texts cells body
IsCodeBody false texts cells body =
    (levels : List ℕ) × (indexes : List ℕ) × IsSpelling 1 (map level cells) levels × AreIndexes texts cells indexes × (body ≡ sized levels ++ indexes)

-- the bytes are the one page of these cells of a column with the indexes of their texts
pub record IsCodePage (required : Bool) (texts : List (List ℕ)) (cells : List Cell) (page : List ℕ) : Type 0 where
  pub some : 0 < length cells
  pub few : length cells ≤ MAX_ROWS
  pub column : All (IsOfColumn BytesKind required) cells
  pub body : List ℕ
  pub spelled : IsCodeBody required texts cells body
  pub small : length body < 2 ^ 31
  pub whole : page ≡ code_header_bytes (length cells) (length body) ++ body
