-- The page of a range of cells: its header and its body (Apache Parquet, README.md, "Data Pages").
use Rattle.std.specs.Prelude.{◌≡◌, ℕ, ◌<◌, ◌≤◌, ◌^◌, pos, Bool, true, false, List, ◌++◌, length, map, All, slice_range, Result, Ok, Err}
use Rattle.fd_thrift.specs.Values.{Value, whole32, struct, no_fields, field}
use Rattle.fd_thrift.specs.Format.{spelling}
use Rattle.fd_hybrid.specs.Format.{IsSpelling}
use Rattle.fd_pages.specs.declared.cell.TheConstants.{MAX_ROWS}
use Rattle.fd_pages.specs.declared.cell.CellKind.{CellKind}
use Rattle.fd_pages.specs.declared.cell.Cell.{Cell}
use Rattle.fd_pages.specs.declared.fault.PageFault.{PageFault}
use Rattle.fd_pages.specs.declared.fault.PageFault.TheVariants.{NoMemory}
use Rattle.fd_pages.specs.Columns.{IsOfColumn, Fits, sized, plain_values, level}

-- The numbers of parquet.thrift: PageType DATA_PAGE, and Encoding PLAIN and RLE.
abbrev pub data_page : ℕ
data_page = 0

abbrev pub plain_encoding : ℕ
plain_encoding = 0

abbrev pub rle_encoding : ℕ
rle_encoding = 3

-- DataPageHeader: 1 num_values, which counts absent values too; 2 encoding; 3 definition_level_encoding; 4 repetition_level_encoding
abbrev pub data_page_header_in : ℕ → ℕ → Value
data_page_header_in encoding count = struct
    (field (pos 1) (whole32 (pos count))
    (field (pos 2) (whole32 (pos encoding))
    (field (pos 3) (whole32 (pos rle_encoding))
    (field (pos 4) (whole32 (pos rle_encoding))
    no_fields))))

-- PageHeader: 1 type; 2 uncompressed_page_size and 3 compressed_page_size, which are the body's and do not count the header; 5 data_page_header
abbrev pub page_header_in : ℕ → ℕ → ℕ → Value
page_header_in encoding count size = struct
    (field (pos 1) (whole32 (pos data_page))
    (field (pos 2) (whole32 (pos size))
    (field (pos 3) (whole32 (pos size))
    (field (pos 5) (data_page_header_in encoding count)
    no_fields))))

-- the same of values in PLAIN
abbrev pub data_page_header : ℕ → Value
data_page_header count = data_page_header_in plain_encoding count

abbrev pub page_header : ℕ → ℕ → Value
page_header count size = page_header_in plain_encoding count size

-- the header of a page with so many cells and so many bytes in its body
unfoldable pub header_bytes : ℕ → ℕ → List ℕ
header_bytes count size = spelling (page_header count size)

-- The body: in an optional column first the definition levels, in hybrid runs of width 1 with their length before them; then the values
-- that are there.
abbrev pub IsBody : Bool → List Cell → List ℕ → Type 0
IsBody true cells body = body ≡ plain_values cells
IsBody false cells body = (runs : List ℕ) × IsSpelling 1 (map level cells) runs × (body ≡ sized runs ++ plain_values cells)

-- the bytes are the one page of these cells of a column
pub record IsPage (kind : CellKind) (required : Bool) (cells : List Cell) (page : List ℕ) : Type 0 where
  pub some : 0 < length cells
  pub few : length cells ≤ MAX_ROWS
  pub column : All (IsOfColumn kind required) cells
  pub fit : All Fits cells
  pub body : List ℕ
  pub spelled : IsBody required cells body
  pub small : length body < 2 ^ 31
  pub whole : page ≡ header_bytes (length cells) (length body) ++ body

-- the bytes from `at` up to `end` are the page of these cells, of which there are `count`
pub record IsPageAt (kind : CellKind) (required : Bool) (count : ℕ) (bytes : List ℕ) (at : ℕ) (cells : List Cell) (end : ℕ) : Type 0 where
  pub begin : at ≤ end
  pub within : end ≤ length bytes
  pub counted : length cells ≡ count
  pub page : IsPage kind required cells (slice_range bytes at end)

-- some bytes in front are the page of so many cells, and this is the rest
pub record BeginsPage (kind : CellKind) (required : Bool) (count : ℕ) (bytes : List ℕ) (cells : List Cell) (rest : List ℕ) : Type 0 where
  pub front : List ℕ
  pub whole : bytes ≡ front ++ rest
  pub counted : length cells ≡ count
  pub page : IsPage kind required cells front

-- some of the bytes from `at` on are the page of so many cells
abbrev pub HasPage : CellKind → Bool → ℕ → List ℕ → ℕ → Type 0
HasPage kind required count bytes at = (cells : List Cell) × (end : ℕ) × IsPageAt kind required count bytes at cells end

-- new is old with the page of these cells behind it
abbrev pub AddsPage : CellKind → Bool → List Cell → List ℕ → List ℕ → Type 0
AddsPage kind required cells old new = (page : List ℕ) × IsPage kind required cells page × (new ≡ old ++ page)

-- What a call that takes memory answers: this, unless memory ran out.
abbrev pub Gives : {A : Type 0} → Result A PageFault → Result A PageFault → Type 0
Gives (Err NoMemory) expected = Unit {0}
Gives answer expected = answer ≡ expected

-- the same for an answer that is seen by `see`
abbrev pub SeenGives : {X Y : Type 0} → (X → Y) → Result X PageFault → Result Y PageFault → Type 0
SeenGives see (Ok x) expected = Ok (see x) ≡ expected
SeenGives see (Err NoMemory) expected = Unit {0}
SeenGives see (Err fault) expected = Err fault ≡ expected
