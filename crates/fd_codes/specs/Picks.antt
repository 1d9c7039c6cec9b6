-- Picks stand for the cells of a column with a dictionary: 0 for an absent cell, and else one more than the index of the cell's text.
use Rattle.std.specs.Prelude.{◌≡◌, ℕ, zero, suc, ◌+◌, ◌<◌, Bool, false, List, [], ◌∷◌, map, slice_index_or}
use Rattle.std.specs.List.{flat_map}
use Rattle.fd_pages.specs.declared.cell.Cell.{Cell}
use Rattle.fd_pages.specs.declared.cell.Cell.TheVariants.{Absent, Bytes}

-- the cell that a pick stands for
abbrev pub picked_cell : List (List ℕ) → ℕ → Cell
picked_cell texts zero = Absent
picked_cell texts (suc index) = Bytes (slice_index_or texts index [])

abbrev pub picked_cells : List (List ℕ) → List ℕ → List Cell
picked_cells texts picks = map (picked_cell texts) picks

-- a pick of a column with so many texts: none is absent where the column is required
abbrev pub IsPick : Bool → ℕ → ℕ → Type 0
IsPick required size zero = required ≡ false
IsPick required size (suc index) = index < size

-- the definition level of the cell
abbrev pub pick_level : ℕ → ℕ
pick_level zero = 0
pick_level (suc index) = 1

-- the index of the cell's text, if it is there
abbrev pub pick_index : ℕ → List ℕ
pick_index zero = []
pick_index (suc index) = index ∷ []

abbrev pub pick_indexes : List ℕ → List ℕ
pick_indexes picks = flat_map pick_index picks

-- how many cells are there
abbrev pub present : List ℕ → ℕ
present [] = 0
present (zero ∷ levels) = present levels
present (suc level ∷ levels) = present levels + 1

-- the pick of a cell with this level, where these are the picks of the cells that are there, and the picks that are left
abbrev pub next_pick : ℕ → List ℕ → ℕ × List ℕ
next_pick zero picks = (0, picks)
next_pick (suc level) [] = (0, [])
next_pick (suc level) (pick ∷ picks) = (pick, picks)

-- the picks of cells with these levels
unfoldable pub spread : List ℕ → List ℕ → List ℕ
spread [] picks = []
spread (level ∷ levels) picks = (next_pick level picks).0 ∷ spread levels (next_pick level picks).1
