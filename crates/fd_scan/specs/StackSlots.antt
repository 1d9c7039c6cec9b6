-- A table from the entries of a column of stacks to the places of the sums of their stacks.
use Rattle.std.specs.Prelude.{◌≡◌, ℕ, ◌<◌, List, length, get_or, slice_set, Option, Some, None}
use Rattle.std.specs.BTreeMap.{BTreeMap, get}
use Rattle.fd_kinds.specs.declared.row.Numbered.{Numbered}
use Rattle.fd_kinds.specs.Meaning.{stack_cmp}
use Rattle.fd_dictionary.specs.Dictionaries.{index_in}
use Rattle.fd_column.specs.Cells.{column_texts}
use Rattle.fd_scan.specs.RowPlaces.{row_at}

-- the place that is known for an entry
abbrev pub known_slot : List (Option ℕ) → Option ℕ → Option ℕ
known_slot known None = None
known_slot known (Some entry) = get_or known entry None

-- the table after the place for an entry was noted
abbrev pub noted : List (Option ℕ) → Option ℕ → ℕ → List (Option ℕ)
noted known None slot = known
noted known (Some entry) slot = slice_set known entry (Some slot)

-- what is known for the entry of a row is the place of its stack
pub record KnowsSlots (rows : List Numbered) (slots : BTreeMap (List (List ℕ)) ℕ) (known : List (Option ℕ)) : Type 0 where
  pub each : (at slot : ℕ) → at < length rows → known_slot known (index_in (column_texts rows 7) at) ≡ Some slot → get stack_cmp slots (row_at rows at).stack ≡ Some slot
