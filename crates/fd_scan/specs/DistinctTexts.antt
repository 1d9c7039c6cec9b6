-- A table of the entries of a column of texts that are known to be among the items of a set.
use Rattle.std.specs.Prelude.{◌≡◌, ℕ, Bool, true, false, List, get_or, slice_set, flat_map, Option, Some, None}
use Rattle.std.specs.Option.{option_to_list}
use Rattle.std.specs.List.{list_any}
use Rattle.std.specs.BTreeMap.{is_at}
use Rattle.fd_kinds.specs.Meaning.{distinct}
use Rattle.fd_lists.specs.Texts.{text_cmp}
use Rattle.fd_dictionary.specs.Dictionaries.{Cells, cell_in, index_in}

-- whether the entry is known
abbrev pub is_seen : List Bool → Option ℕ → Bool
is_seen seen None = false
is_seen seen (Some entry) = get_or seen entry false

-- the table after the entry was noted
abbrev pub seen_more : List Bool → Option ℕ → List Bool
seen_more seen None = seen
seen_more seen (Some entry) = slice_set seen entry true

-- the text of a cell, as a list of one or none
abbrev pub text_at : Cells → ℕ → List (List ℕ)
text_at cells at = option_to_list (cell_in cells at)

-- the texts of the cells at places
abbrev pub texts_at : Cells → List ℕ → List (List ℕ)
texts_at cells places = flat_map (text_at cells) places

-- The keys are the distinct ones of the items, and the texts of the known entries are among these.
pub record SeesTexts (cells : Cells) (keys : List (List ℕ)) (seen : List Bool) (items : List (List ℕ)) : Type 0 where
  pub held : keys ≡ distinct text_cmp items
  pub each : (at : ℕ) (text : List ℕ) → is_seen seen (index_in cells at) ≡ true → cell_in cells at ≡ Some text → list_any (is_at (text_cmp text)) items ≡ true
