-- Rows of columns, by their places.
use Rattle.std.specs.Prelude.{ℕ, zero, suc, pos, ◌==◌, Bool, true, false, not, ◌&&◌, if◌then◌else◌, List, [], ◌∷◌, length, map, refl, Option, Some, None, unwrap_or, bytes_eq}
use Rattle.std.specs.List.{range_with_len}
use Rattle.std.specs.Ordering.{int_eq}
use Rattle.fd_kinds.specs.declared.row.Row.{Row}
use Rattle.fd_kinds.specs.declared.row.Numbered.{Numbered}
use Rattle.fd_kinds.specs.declared.query.ProfileType.{ProfileType}
use Rattle.fd_kinds.specs.declared.query.Window.{Window}
use Rattle.fd_kinds.specs.Meaning.{is_within}
use Rattle.fd_dictionary.specs.Dictionaries.{Cells, cell_in}

-- a row without texts, labels and frames, whose numbers are 0
unfoldable pub empty_row : Row
empty_row =
    record {
      name = [];
      sample_type = [];
      sample_unit = [];
      period_type = [];
      period_unit = [];
      labels = record { pairs = []; in_order = refl };
      timestamp = pos 0;
      stack = [];
      pprof_labels = record { pairs = []; in_order = refl };
      period = pos 0;
      duration = pos 0;
      value = pos 0;
    }

-- the row at a place, and the empty one behind the last
unfoldable pub row_at : List Numbered → ℕ → Row
row_at [] at = empty_row
row_at (n ∷ ns) zero = n.row
row_at (n ∷ ns) (suc at) = row_at ns at

-- the places of these rows, in order
abbrev pub places_of : List Numbered → List ℕ
places_of rows = range_with_len 0 (length rows)

-- the rows at places
abbrev pub rows_at : List Numbered → List ℕ → List Row
rows_at rows places = map (row_at rows) places

-- the text of a cell, and the empty one where the cell is absent
abbrev pub text_of : Cells → ℕ → List ℕ
text_of cells at = unwrap_or (cell_in cells at) []

-- whether a cell has the text
abbrev pub has_text : Cells → List ℕ → ℕ → Bool
has_text cells text at = bytes_eq (text_of cells at) text

-- whether a cell with this entry has the text of the wanted entry; an absent cell has the empty text
abbrev pub is_entry : Option ℕ → Bool → Option ℕ → Bool
is_entry wanted empty None = empty
is_entry None empty (Some entry) = false
is_entry (Some wanted) empty (Some entry) = wanted == entry

-- whether the row has the five texts of the type
abbrev pub has_texts : ProfileType → Row → Bool
has_texts kind row =
    bytes_eq row.name kind.name
    && bytes_eq row.sample_type kind.sample_type
    && bytes_eq row.sample_unit kind.sample_unit
    && bytes_eq row.period_type kind.period_type
    && bytes_eq row.period_unit kind.period_unit

-- whether the row stands for a stretch of time as it is asked, where that is asked
abbrev pub has_delta : Option Bool → Row → Bool
has_delta None row = true
has_delta (Some delta) row = if delta then not (int_eq row.duration (pos 0)) else int_eq row.duration (pos 0)

abbrev pub is_in_time : Window → Option Bool → Row → Bool
is_in_time window delta row = is_within window row && has_delta delta row
