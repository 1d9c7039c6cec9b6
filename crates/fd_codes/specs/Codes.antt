-- The indexes of a page, and the picks that stand for them.
use Rattle.std.specs.Prelude.{◌≡◌, ℕ, suc, ◌<◌, ◌≤◌, Bool, List, ◌∷◌, ◌++◌, length, map, All}
use Rattle.fd_hybrid.specs.Format.{IsSpelling}
use Rattle.fd_pages.specs.declared.cell.CellKind.TheVariants.{Bytes as BytesKind}
use Rattle.fd_pages.specs.declared.cell.Cell.{Cell}
use Rattle.fd_pages.specs.Columns.{IsOfColumn, sized}
use Rattle.fd_pages.specs.Dictionaries.{IsWidth, IsCodeBody}
use Rattle.fd_codes.specs.Picks.{IsPick, picked_cells, pick_level, pick_indexes, present, spread}

-- the bytes are so many indexes of so many texts behind their width, and these are the picks of cells that are there
pub record ArePicks (size count : ℕ) (bytes picks : List ℕ) : Type 0 where
  pub width : ℕ
  pub wide : IsWidth size width
  pub indexes : List ℕ
  pub counted : length indexes ≡ count
  pub within : All (λ index. index < size) indexes
  pub runs : List ℕ
  pub spelled : IsSpelling width indexes runs
  pub whole : bytes ≡ width ∷ runs
  pub are : picks ≡ map suc indexes

-- these are the picks of cells with levels, of which those that are there have indexes that the bytes are
pub record AreSpread (size : ℕ) (levels bytes picks : List ℕ) : Type 0 where
  pub there : List ℕ
  pub indexed : ArePicks size (present levels) bytes there
  pub are : picks ≡ spread levels there

-- so many cells of a column whose page has this body
pub record HasBody (required : Bool) (texts : List (List ℕ)) (count : ℕ) (body : List ℕ) (cells : List Cell) : Type 0 where
  pub counted : length cells ≡ count
  pub column : All (IsOfColumn BytesKind required) cells
  pub spelled : IsCodeBody required texts cells body

-- the same by picks, whatever the texts are, of which there are `size`
pub record IsPickBody (required : Bool) (size count : ℕ) (body picks : List ℕ) : Type 0 where
  pub within : All (IsPick required size) picks
  pub cells : (texts : List (List ℕ)) → length texts ≡ size → HasBody required texts count body (picked_cells texts picks)

-- new is old with the definition levels of picks behind it, and the length of their runs before them
pub record AddsLevels (picks old new : List ℕ) : Type 0 where
  pub runs : List ℕ
  pub spelled : IsSpelling 1 (map pick_level picks) runs
  pub short : length runs ≤ 100000
  pub whole : new ≡ old ++ sized runs

-- new is old with the indexes of picks behind it
pub record AddsIndexes (size : ℕ) (picks old new : List ℕ) : Type 0 where
  pub width : ℕ
  pub wide : IsWidth size width
  pub runs : List ℕ
  pub spelled : IsSpelling width (pick_indexes picks) runs
  pub short : length runs ≤ 100000
  pub whole : new ≡ old ++ width ∷ runs
