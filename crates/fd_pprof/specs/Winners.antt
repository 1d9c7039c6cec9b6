-- The labels of a sample that count, and the numbers by which their keys are told apart.
use Rattle.std.specs.Prelude.{◌≡◌, ℕ, Bool, not, ◌&&◌, List, map, Option, Some, is_some, sum_by, slice_get}
use Rattle.std.specs.List.{position_from}
use Rattle.std.specs.Option.{unwrap_or}
use Rattle.std.specs.Ordering.{is_eq, nat_cmp}
use Rattle.std.specs.BTreeSet.{BTreeSet, contains}
use Rattle.fd_kinds.specs.declared.pair.Pair.{Pair}
use Rattle.fd_lists.specs.Texts.{text_cmp}
use Rattle.fd_kinds.specs.RowSize.{pair_size}
use Rattle.fd_kinds.specs.LabelMaps.{is_kept, last_value_of, in_order}
use Rattle.fd_pprof.specs.Frames.{text}

-- the first place of a text in a list whose places count from i
abbrev pub place_from : ℕ → List (List ℕ) → List ℕ → Option ℕ
place_from i ts t = position_from (λ other. is_eq (text_cmp other t)) i ts

-- a number for each text of a table: the first place at which it stands
abbrev pub text_numbers : List (List ℕ) → List ℕ
text_numbers ts = map (λ t. unwrap_or (place_from 0 ts t) 0) ts

-- a pair that is kept, and behind which no other of its name is kept
abbrev pub wins : List Pair → Pair → Bool
wins behind p = is_kept p && not (is_some (last_value_of behind p.name))

-- the names of the pairs behind that are kept, by their numbers
abbrev pub AreSeen : List (List ℕ) → List Pair → BTreeSet ℕ → Type 0
AreSeen ts behind seen = (k n : ℕ) → slice_get (text_numbers ts) k ≡ Some n → contains nat_cmp seen n ≡ is_some (last_value_of behind (text ts k))

-- `winners` are those of the pairs `all` that make the labels, in some order
pub record AreWinners (winners all : List Pair) : Type 0 where
  pub same : (name : List ℕ) → last_value_of winners name ≡ last_value_of all name
  pub size : sum_by pair_size winners ≡ sum_by pair_size (in_order all)
