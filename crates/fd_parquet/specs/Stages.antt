-- The stages of reading a file, and what each answers: its frame, its footer, the cells of its columns, their rows, and the file as a whole.
use Rattle.std.specs.Prelude.{◌≡◌, ℕ, ◌+◌, ◌≤◌, ◌<◌, ◌^◌, ◌⊎◌, true, false, ℤ, pos, negsuc, List, [], ◌++◌, length, map, take, All, IsUtf8, IsSorted, Some, None, Result, Ok, Err}
use Rattle.std.specs.List.{AllZip}
use Rattle.fd_kinds.specs.declared.row.Numbered.{Numbered}
use Rattle.fd_thrift.specs.Values.{Value}
use Rattle.fd_thrift.specs.Format.{Spells}
use Rattle.fd_pages.specs.declared.cell.Cell.{Cell}
use Rattle.fd_pages.specs.Columns.{Fits}
use Rattle.fd_footer.specs.declared.footer.Pages.{Pages}
use Rattle.fd_footer.specs.declared.footer.Chunk.{Chunk}
use Rattle.fd_footer.specs.declared.footer.Column.{Column}
use Rattle.fd_footer.specs.declared.table.FooterTable.{FooterTable}
use Rattle.fd_footer.specs.Shapes.{has_shape}
use Rattle.fd_footer.specs.Contents.{table_of}
use Rattle.fd_table_file.specs.Columns.{file_column, cells_of, HasText}
use Rattle.fd_table_file.specs.Chunks.{Pieces, IsChunkOf}
use Rattle.fd_table_file.specs.Files.{magic, places_from, chunk_bytes, footer_at, IsWithin}
use Rattle.fd_footer.specs.Footers.{footer_bytes, IsWritable}
use Rattle.fd_column.specs.RowNumbers.{numbered_cmp}
use Rattle.fd_column.specs.Cells.{columns_of, column_names}
use Rattle.fd_parquet.specs.declared.fault.FileFault.{FileFault}
use Rattle.fd_parquet.specs.declared.fault.FileFault.TheVariants.{Magic, Footer, Schema, Page, NoMemory}
use Rattle.fd_parquet.specs.Refusals.{HasMagic, Holds, BeginsColumns, FailsAt, HasAll}

-- the bytes have both magics, and this stands between them, of four bytes at least
pub record HasInner (bytes inner : List ℕ) : Type 0 where
  pub both : HasMagic bytes
  pub long : 4 ≤ length inner
  pub whole : bytes ≡ magic ++ (inner ++ magic)

-- the parts of a file, which take no memory
abbrev pub HeldBy : {X : Type 0} → (X → List ℕ × List ℕ) → List ℕ → List ℕ → Result X FileFault → Type 0
HeldBy see body footer (Ok x) = see x ≡ (body, footer)
HeldBy see body footer (Err fault) = ⊥

-- a fault of columns, unless memory ran out
abbrev pub IsFailure : Pages → List Column → ℕ → List ℕ → FileFault → Type 0
IsFailure pages columns count bytes (Page k) = FailsAt pages columns count bytes k
IsFailure pages columns count bytes NoMemory = Unit {0}
IsFailure pages columns count bytes fault = ⊥

-- these columns are those of the rows, and these cells stand in them
pub record HasCells (columns : List Column) (cells : List (List Cell)) (rows : List Numbered) : Type 0 where
  pub same : columns ≡ map file_column (columns_of rows)
  pub each : cells ≡ map (λ c. cells_of c rows) (columns_of rows)

-- rows that have these cells, in order and with numbers in the range
pub record AreRows (columns : List Column) (cells : List (List Cell)) (lo hi : ℕ) (rows : List Numbered) : Type 0 where
  pub have : HasCells columns cells rows
  pub within : All (IsWithin lo hi) rows
  pub sorted : IsSorted numbered_cmp rows

-- so many rows were built, and rows that have these cells begin with them
pub record BuildsRows (columns : List Column) (cells : List (List Cell)) (lo hi at : ℕ) (built : List Numbered) : Type 0 where
  pub counted : length built ≡ at
  pub within : All (IsWithin lo hi) built
  pub sorted : IsSorted numbered_cmp built
  pub begin : (rows : List Numbered) → at ≤ length rows → AreRows columns cells lo hi rows → built ≡ take at rows

-- the cells that are bytes are texts, column by column, and each fits a page
pub record HaveTexts (columns : List Column) (cells : List (List Cell)) : Type 0 where
  pub texts : AllZip (λ f cells. All (HasText f) cells) columns cells
  pub fit : All (All Fits) cells

-- the footer of these rows is written, with such pages and these places of their chunks
pub record IsFooterOf (pages : Pages) (footer : List ℕ) (rows : List Numbered) (lo hi : ℕ) (places : List Chunk) : Type 0 where
  pub writable : IsWritable (footer_at pages rows lo hi places)
  pub spelled : footer ≡ footer_bytes (footer_at pages rows lo hi places)

-- these are the cells of the rows, and their footer spells these bytes
pub record FitsTable (pages : Pages) (footer : List ℕ) (cells : List (List Cell)) (places : List Chunk) (rows : List Numbered) (lo hi : ℕ) : Type 0 where
  pub each : cells ≡ map (λ c. cells_of c rows) (columns_of rows)
  pub names : All IsUtf8 (column_names rows)
  pub footer_is : IsFooterOf pages footer rows lo hi places

-- Rows that make up the file of a footer: their cells and their range are these, and their footer spells these bytes.
pub record HasTable (told : FooterTable) (cells : List (List Cell)) (places : List Chunk) (footer : List ℕ) (rows : List Numbered) (lo hi : ℕ) : Type 0 where
  pub lowest : told.lo ≡ Some lo
  pub highest : told.hi ≡ Some hi
  pub range : lo ≤ hi
  pub below : hi < 2 ^ 63
  pub names : All IsUtf8 (column_names rows)
  pub are : AreRows told.columns cells lo hi rows
  pub footer_is : IsFooterOf told.pages footer rows lo hi places

-- the bytes are the footer with this tree, which tells this table
pub record TellsOf (footer : List ℕ) (v : Value) (t : FooterTable) : Type 0 where
  pub spelled : Spells footer v
  pub shape : has_shape v ≡ true
  pub tabled : table_of v ≡ Some t

-- all bytes before a footer are the chunks of the columns that it tells, with these cells and in these places
pub record IsRead (told : FooterTable) (count : ℕ) (cells : List (List Cell)) (places : List Chunk) : Type 0 where
  pub body : List ℕ
  pub short : 4 + length body < 2 ^ 63
  pub few : count < 2 ^ 63
  pub rows : told.rows ≡ pos count
  pub begins : BeginsColumns told.pages count (length magic) told.columns body cells places []

-- why bytes tell no table
abbrev pub IsFooterFault : List ℕ → FileFault → Type 0
IsFooterFault footer Footer = (v : Value) → Spells footer v → has_shape v ≡ false
IsFooterFault footer Schema = (v : Value) × Spells footer v × (has_shape v ≡ true) × (table_of v ≡ None)
IsFooterFault footer NoMemory = Unit {0}
IsFooterFault footer fault = ⊥

-- what reading a footer with this tree answers, unless memory runs out
abbrev pub TellsOrRefuses : Value → Result FooterTable FileFault → Type 0
TellsOrRefuses v (Ok t) = (has_shape v ≡ true) × (table_of v ≡ Some t)
TellsOrRefuses v (Err Footer) = has_shape v ≡ false
TellsOrRefuses v (Err Schema) = (has_shape v ≡ true) × (table_of v ≡ None)
TellsOrRefuses v (Err NoMemory) = Unit {0}
TellsOrRefuses v (Err fault) = ⊥

-- what the footer of these rows tells
abbrev pub told_of : Pages → List Numbered → ℕ → ℕ → FooterTable
told_of pages rows lo hi = record { pages = pages; lo = Some lo; hi = Some hi; rows = pos (length rows); columns = map file_column (columns_of rows) }

-- why bytes have no chunks and no footer
abbrev pub IsFrameFault : List ℕ → FileFault → Type 0
IsFrameFault bytes Magic = HasMagic bytes → ⊥
IsFrameFault bytes Footer = HasMagic bytes × ((body footer : List ℕ) → Holds bytes body footer → ⊥)
IsFrameFault bytes fault = ⊥

-- these are the chunks and the footer of the file of these rows with such pages
pub record AreParts (pages : Pages) (body footer : List ℕ) (rows : List Numbered) (lo hi : ℕ) : Type 0 where
  pub range : lo ≤ hi
  pub below : hi < 2 ^ 63
  pub within : All (IsWithin lo hi) rows
  pub sorted : IsSorted numbered_cmp rows
  pub chunks : List Pieces
  pub spelled : AllZip (IsChunkOf pages rows) (columns_of rows) chunks
  pub body_is : body ≡ chunk_bytes chunks
  pub footer_is : IsFooterOf pages footer rows lo hi (places_from (length magic) chunks)

abbrev pub HasParts : List ℕ → List ℕ → Type 0
HasParts body footer = (pages : Pages) × (rows : List Numbered) × (lo : ℕ) × (hi : ℕ) × AreParts pages body footer rows lo hi

-- The same as `RefusesPage`, of the chunks and the footer.
abbrev pub RefusesParts : List ℕ → List ℕ → FooterTable → ℤ → ℕ → Type 0
RefusesParts body footer t (negsuc n) k = k ≡ 0
RefusesParts body footer t (pos count) k =
    FailsAt t.pages t.columns count body k
    ⊎ ((k ≡ length t.columns) × HasAll t.pages t.columns count body × (HasParts body footer → ⊥))

-- a fault of the chunks and the footer, unless memory ran out
abbrev pub IsPartsFault : List ℕ → List ℕ → FooterTable → FileFault → Type 0
IsPartsFault body footer t (Page k) = RefusesParts body footer t t.rows k
IsPartsFault body footer t NoMemory = Unit {0}
IsPartsFault body footer t fault = ⊥
