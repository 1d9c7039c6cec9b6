-- Which bytes are refused as a file, and by which fault.
use Rattle.std.specs.Prelude.{◌≡◌, ℕ, zero, suc, ◌-◌, ◌≤◌, ◌<◌, ◌^◌, ◌⊎◌, true, false, ℤ, pos, negsuc, List, [], ◌∷◌, ◌++◌, length, take, drop, All, Some, None, Result, Ok, Err}
use Rattle.fd_kinds.specs.declared.row.Numbered.{Numbered}
use Rattle.fd_thrift.specs.Values.{Value}
use Rattle.fd_thrift.specs.Format.{Spells}
use Rattle.fd_pages.specs.declared.cell.Cell.{Cell}
use Rattle.fd_footer.specs.declared.footer.Pages.{Pages}
use Rattle.fd_footer.specs.declared.footer.Chunk.{Chunk}
use Rattle.fd_footer.specs.declared.footer.Column.{Column}
use Rattle.fd_footer.specs.declared.table.FooterTable.{FooterTable}
use Rattle.fd_footer.specs.Tables.{has_dictionary}
use Rattle.fd_footer.specs.Shapes.{has_shape}
use Rattle.fd_footer.specs.Contents.{table_of}
use Rattle.fd_table_file.specs.Columns.{kind_in, HasText}
use Rattle.fd_table_file.specs.Chunks.{Pieces, piece_bytes, IsChunk}
use Rattle.fd_table_file.specs.Files.{magic, framed, places_from, chunk_bytes, IsFileOf}
use Rattle.fd_parquet.specs.declared.fault.FileFault.{FileFault}
use Rattle.fd_parquet.specs.declared.fault.FileFault.TheVariants.{Magic, Footer, Schema, Page, NoMemory}

-- twelve bytes at least, and the magic at both ends
pub record HasMagic (bytes : List ℕ) : Type 0 where
  pub long : 12 ≤ length bytes
  pub first : take 4 bytes ≡ magic
  pub last : drop (length bytes - 4) bytes ≡ magic

-- the chunks and the footer that stand between the magics
pub record Holds (bytes body footer : List ℕ) : Type 0 where
  pub short : length footer < 2 ^ 32
  pub whole : bytes ≡ framed body footer

-- the footer spells this tree, which has the fields of a footer
pub record TellsTree (bytes body : List ℕ) (v : Value) : Type 0 where
  pub footer : List ℕ
  pub holds : Holds bytes body footer
  pub spelled : Spells footer v
  pub shape : has_shape v ≡ true

-- the same, and the tree's columns and entries are those of a table
pub record TellsTable (bytes body : List ℕ) (t : FooterTable) : Type 0 where
  pub tree : Value
  pub told : TellsTree bytes body tree
  pub tabled : table_of tree ≡ Some t

-- These pieces are the chunk of these cells of a column: so many, and texts where they are bytes. No chunks with a dictionary are read yet.
pub record IsColumn (pages : Pages) (f : Column) (count : ℕ) (cells : List Cell) (chunk : Pieces) : Type 0 where
  pub plain : has_dictionary pages f.column_type ≡ false
  pub counted : length cells ≡ count
  pub texts : All (HasText f) cells
  pub spelled : IsChunk (has_dictionary pages f.column_type) (kind_in f.column_type) f.required cells chunk

-- some bytes in front are the chunk of so many cells of a column, and this is the rest
pub record BeginsChunk (pages : Pages) (f : Column) (count : ℕ) (bytes : List ℕ) (cells : List Cell) (rest : List ℕ) : Type 0 where
  pub front : Pieces
  pub whole : bytes ≡ piece_bytes front ++ rest
  pub is : IsColumn pages f count cells front

-- the chunks of columns, one for each
abbrev pub AreColumns : Pages → ℕ → List Column → List (List Cell) → List Pieces → Type 0
AreColumns pages count [] [] [] = Unit {0}
AreColumns pages count (f ∷ fs) (cells ∷ others) (chunk ∷ chunks) = IsColumn pages f count cells chunk × AreColumns pages count fs others chunks
AreColumns pages count fs cells chunks = ⊥

-- The bytes begin with the chunks of columns, one behind the other, of which the first stands in this place of the file, and all in these. This is the rest.
pub record BeginsColumns (pages : Pages) (count place : ℕ) (columns : List Column) (bytes : List ℕ) (cells : List (List Cell)) (places : List Chunk) (rest : List ℕ) : Type 0 where
  pub chunks : List Pieces
  pub whole : bytes ≡ chunk_bytes chunks ++ rest
  pub are : AreColumns pages count columns cells chunks
  pub placed : places ≡ places_from place chunks

-- the first column whose bytes are no chunk of so many cells, where the chunks follow each other
abbrev pub FailsAt : Pages → List Column → ℕ → List ℕ → ℕ → Type 0
FailsAt pages [] count bytes k = ⊥
FailsAt pages (f ∷ fs) count bytes zero = (cells : List Cell) (rest : List ℕ) → BeginsChunk pages f count bytes cells rest → ⊥
FailsAt pages (f ∷ fs) count bytes (suc k) =
    (cells : List Cell) × (rest : List ℕ) × BeginsChunk pages f count bytes cells rest × FailsAt pages fs count rest k

-- all columns have their chunks
abbrev pub HasAll : Pages → List Column → ℕ → List ℕ → Type 0
HasAll pages columns count bytes =
    (cells : List (List Cell)) × (places : List Chunk) × (rest : List ℕ) × BeginsColumns pages count (length magic) columns bytes cells places rest

-- the bytes are a file with pages of some kind
abbrev pub HasFile : List ℕ → Type 0
HasFile bytes = (pages : Pages) × (rows : List Numbered) × (lo : ℕ) × (hi : ℕ) × IsFileOf pages bytes rows lo hi

-- Which column is told: by the count of rows, the first without a chunk, or the number of columns where only the file as a whole is none.
abbrev pub RefusesPage : List ℕ → List ℕ → FooterTable → ℤ → ℕ → Type 0
RefusesPage bytes body t (negsuc n) k = k ≡ 0
RefusesPage bytes body t (pos count) k =
    FailsAt t.pages t.columns count body k
    ⊎ ((k ≡ length t.columns) × HasAll t.pages t.columns count body × (HasFile bytes → ⊥))

-- the fault by which bytes are refused
abbrev pub Refuses : List ℕ → FileFault → Type 0
Refuses bytes Magic = HasMagic bytes → ⊥
Refuses bytes Footer = HasMagic bytes × ((body : List ℕ) (v : Value) → TellsTree bytes body v → ⊥)
Refuses bytes Schema = (body : List ℕ) × (v : Value) × TellsTree bytes body v × (table_of v ≡ None)
Refuses bytes (Page k) = (body : List ℕ) × (t : FooterTable) × TellsTable bytes body t × RefusesPage bytes body t t.rows k
Refuses bytes NoMemory = ⊥

-- what a call that takes memory answers: this fault, unless memory ran out
abbrev pub IsRefused : {A : Type 0} → FileFault → Result A FileFault → Type 0
IsRefused fault (Err NoMemory) = Unit {0}
IsRefused fault answer = answer ≡ Err fault

-- an answer that is seen by `see`: this, unless memory ran out
abbrev pub Finds : {X Y : Type 0} → (X → Y) → Result X FileFault → Y → Type 0
Finds see (Ok x) expected = see x ≡ expected
Finds see (Err NoMemory) expected = Unit {0}
Finds see (Err fault) expected = ⊥
