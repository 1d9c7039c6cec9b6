-- The file of a table (Apache Parquet, README.md, "File format"), by the kind of its pages.
use Rattle.std.specs.Prelude.{◌≡◌, ℕ, ◌+◌, ◌<◌, ◌≤◌, ◌^◌, ◌==◌, if◌then◌else◌, List, [], ◌∷◌, ◌++◌, length, map, All, sum_by, IsSorted}
use Rattle.fd_kinds.specs.declared.limits.TheConstants.{BLOCK_BYTES_LIMIT}
pub use Rattle.fd_kinds.specs.Parts.{IsWithin}
use Rattle.fd_kinds.specs.RowSize.{row_size}
use Rattle.std.specs.List.{AllZip, flat_map}
use Rattle.fd_kinds.specs.declared.row.Numbered.{Numbered}
use Rattle.fd_column.specs.Cells.{Column, columns_of}
use Rattle.fd_column.specs.RowNumbers.{numbered_cmp}
use Rattle.fd_footer.specs.declared.footer.Pages.{Pages}
use Rattle.fd_footer.specs.declared.footer.Chunk.{Chunk}
use Rattle.fd_footer.specs.declared.footer.Footer.{Footer}
use Rattle.fd_footer.specs.Footers.{footer_bytes, IsWritable}
use Rattle.fd_table_file.specs.Columns.{file_column}
pub use Rattle.fd_table_file.specs.Frame.{magic, framed}
use Rattle.fd_table_file.specs.Chunks.{Pieces, piece_bytes, IsChunkOf}

-- the chunk in these pieces, which stands in this place
abbrev pub chunk_at : ℕ → Pieces → Chunk
chunk_at place pieces = record { place = place; size = length (piece_bytes pieces); data_page = place + length pieces.dictionary }

-- the chunk without a dictionary that stands in this place and has so many bytes
abbrev pub plain_chunk_at : ℕ → ℕ → Chunk
plain_chunk_at place size = record { place = place; size = size; data_page = place }

-- where chunks stand that follow each other from a place on
abbrev pub places_from : ℕ → List Pieces → List Chunk
places_from at [] = []
places_from at (pieces ∷ chunks) = chunk_at at pieces ∷ places_from (at + length (piece_bytes pieces)) chunks

-- the bytes of chunks, one behind the other
abbrev pub chunk_bytes : List Pieces → List ℕ
chunk_bytes chunks = flat_map piece_bytes chunks

-- The footer of a file with such pages whose chunks stand in these places. A file without rows has no group of rows, and so no chunk.
abbrev pub footer_at : Pages → List Numbered → ℕ → ℕ → List Chunk → Footer
footer_at pages rows lo hi places = record {
  pages = pages;
  lo = lo;
  hi = hi;
  rows = length rows;
  columns = map file_column (columns_of rows);
  chunks = if length rows == 0 then [] else places;
}

-- the footer of a file whose chunks follow each other behind the first magic
abbrev pub footer_of : Pages → List Numbered → ℕ → ℕ → List Pieces → Footer
footer_of pages rows lo hi chunks = footer_at pages rows lo hi (places_from (length magic) chunks)

-- The bytes are the file of these rows with pages of this kind, plain or with dictionaries, and the rows' numbers are in this range.
pub record IsFileOf (pages : Pages) (bytes : List ℕ) (rows : List Numbered) (lo hi : ℕ) : Type 0 where
  pub range : lo ≤ hi
  pub below : hi < 2 ^ 63
  pub within : All (IsWithin lo hi) rows
  pub sorted : IsSorted numbered_cmp rows
  pub chunks : List Pieces
  pub spelled : AllZip (IsChunkOf pages rows) (columns_of rows) chunks
  pub writable : IsWritable (footer_of pages rows lo hi chunks)
  pub short : length (footer_bytes (footer_of pages rows lo hi chunks)) < 2 ^ 32
  pub whole : bytes ≡ framed (chunk_bytes chunks) (footer_bytes (footer_of pages rows lo hi chunks))

-- the chunks of these columns follow each other behind the magic, and stand in these places
pub record HasChunks (pages : Pages) (rows : List Numbered) (columns : List Column) (bytes : List ℕ) (places : List Chunk) : Type 0 where
  pub chunks : List Pieces
  pub spelled : AllZip (IsChunkOf pages rows) columns chunks
  pub whole : bytes ≡ magic ++ chunk_bytes chunks
  pub placed : places ≡ places_from (length magic) chunks

-- the rows have few bytes in the log, so that each page and the footer have lengths that fit
abbrev pub IsSmall : List Numbered → Type 0
IsSmall rows = sum_by (λ n. row_size n.row) rows < BLOCK_BYTES_LIMIT
