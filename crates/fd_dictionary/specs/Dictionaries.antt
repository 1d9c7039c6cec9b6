-- Cells as places in a list of distinct texts.
use Rattle.std.specs.Prelude.{◌≡◌, ℕ, zero, suc, ◌-◌, ◌≤◌, if◌then◌else◌, List, [], ◌∷◌, ◌++◌, map, length, slice_get, fold, All, Option, Some, None, option_map, option_and_then, unwrap_or, is_some}
use Rattle.std.specs.Ordering.{is_eq}
use Rattle.std.specs.BTreeMap.{BTreeMap, get_by}
use Rattle.std.specs.declared.vec.Vec.{Vec}
use Rattle.std.specs.declared.alloc.Global.{Global}
use Rattle.fd_lists.specs.Texts.{text_cmp}

-- the cells of a column of texts, absent ones among them
abbrev pub Cells : Type 0
Cells = List (Option (List ℕ))

-- the text of the cell at a place, none where it is absent or there is no cell
abbrev pub cell_in : Cells → ℕ → Option (List ℕ)
cell_in cells at = option_and_then (λ cell. cell) (slice_get cells at)

-- 0 stands for an absent cell, and 1 for the first entry
abbrev pub picked : List (List ℕ) → ℕ → Option (List ℕ)
picked entries zero = None
picked entries (suc at) = slice_get entries at

abbrev pub cells_of : List (List ℕ) → List ℕ → Cells
cells_of entries picks = map (picked entries) picks

-- what stands for the first entry that is this text
abbrev pub pick_in : List (List ℕ) → List ℕ → Option ℕ
pick_in [] text = None
pick_in (e ∷ es) text = if is_eq (text_cmp text e) then Some 1 else option_map (λ pick. suc pick) (pick_in es text)

-- the entries, with the text among them
abbrev pub with_entry : List (List ℕ) → List ℕ → List (List ℕ)
with_entry entries text = if is_some (pick_in entries text) then entries else entries ++ text ∷ []

abbrev pub with_cell : List (List ℕ) → Option (List ℕ) → List (List ℕ)
with_cell entries None = entries
with_cell entries (Some text) = with_entry entries text

-- the texts that occur in the cells, each once, in the order in which they come first
abbrev pub entries_of : Cells → List (List ℕ)
entries_of cells = fold with_cell [] cells

-- what stands for a cell
abbrev pub pick_of : List (List ℕ) → Option (List ℕ) → ℕ
pick_of entries None = 0
pick_of entries (Some text) = unwrap_or (pick_in entries text) 0

-- the place of the text among the entries
abbrev pub entry_at : List (List ℕ) → List ℕ → Option ℕ
entry_at entries text = option_map (λ pick. pick - 1) (pick_in entries text)

-- the place of a cell's text among the entries of the column, none where it is absent or there is no cell
abbrev pub index_in : Cells → ℕ → Option ℕ
index_in cells at = option_and_then (entry_at (entries_of cells)) (cell_in cells at)

-- the entries are those of the cells, and each cell is kept as what stands for it
pub record IsDictionary (entries : List (List ℕ)) (picks : List ℕ) : Type 0 where
  pub within : All (λ pick. pick ≤ length entries) picks
  pub exact : entries ≡ entries_of (cells_of entries picks)
  pub placed : All (λ pick. pick_of entries (picked entries pick) ≡ pick) picks

-- the map has what stands for each entry, and nothing else
abbrev pub KnowsPicks : BTreeMap (Vec ℕ Global) ℕ → List (List ℕ) → Type 0
KnowsPicks picks entries = (text : List ℕ) → get_by (λ key. text_cmp text key.items) picks ≡ pick_in entries text
