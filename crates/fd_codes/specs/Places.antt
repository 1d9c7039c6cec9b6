-- Where pages stand in bytes.
use Rattle.std.specs.Prelude.{◌≡◌, ℕ, ◌≤◌, Bool, List, ◌++◌, length, map, slice_range, All}
use Rattle.fd_pages.specs.declared.cell.Cell.{Cell}
use Rattle.fd_pages.specs.Dictionaries.{IsDictionary, IsCodePage}
use Rattle.fd_codes.specs.Picks.{picked_cells, IsPick}

-- the bytes from `at` up to `end` are such a page
pub record Stands (IsSuch : List ℕ → Type 0) (bytes : List ℕ) (at end : ℕ) : Type 0 where
  pub begin : at ≤ end
  pub within : end ≤ length bytes
  pub page : IsSuch (slice_range bytes at end)

-- some bytes in front are such a page, and this is the rest
pub record Fronts (IsSuch : List ℕ → Type 0) (bytes rest : List ℕ) : Type 0 where
  pub front : List ℕ
  pub whole : bytes ≡ front ++ rest
  pub page : IsSuch front

-- new is old with such a page behind it
abbrev pub Adds : (List ℕ → Type 0) → List ℕ → List ℕ → Type 0
Adds IsSuch old new = (page : List ℕ) × IsSuch page × (new ≡ old ++ page)

-- ---- dictionaries

abbrev pub IsDictionaryAt : List ℕ → ℕ → List (List ℕ) → ℕ → Type 0
IsDictionaryAt bytes at texts end = Stands (IsDictionary texts) bytes at end

-- some of the bytes from `at` on are the page of a dictionary
abbrev pub HasDictionary : List ℕ → ℕ → Type 0
HasDictionary bytes at = (texts : List (List ℕ)) × (end : ℕ) × IsDictionaryAt bytes at texts end

-- ---- pages with indexes

-- the page of so many cells with indexes of these texts
pub record IsCodePageOf (required : Bool) (texts : List (List ℕ)) (count : ℕ) (cells : List Cell) (bytes : List ℕ) : Type 0 where
  pub counted : length cells ≡ count
  pub page : IsCodePage required texts cells bytes

abbrev pub IsCodePageAt : Bool → List (List ℕ) → ℕ → List ℕ → ℕ → List Cell → ℕ → Type 0
IsCodePageAt required texts count bytes at cells end = Stands (IsCodePageOf required texts count cells) bytes at end

-- some of the bytes from `at` on are such a page
abbrev pub HasCodePage : Bool → List (List ℕ) → ℕ → List ℕ → ℕ → Type 0
HasCodePage required texts count bytes at = (cells : List Cell) × (end : ℕ) × IsCodePageAt required texts count bytes at cells end

-- the same page by picks, whatever the texts are, of which there are `size`
pub record IsPickPage (required : Bool) (size count : ℕ) (picks bytes : List ℕ) : Type 0 where
  pub within : All (IsPick required size) picks
  pub cells : (texts : List (List ℕ)) → length texts ≡ size → IsCodePageOf required texts count (picked_cells texts picks) bytes
