-- One more column of labels.
use Rattle.std.proofs.Common.{◌≡◌, ℕ, ◌+◌, ◌<◌, List, [], ◌∷◌, ◌++◌, length, get_or, take, ◌∙◌, ap}
use Rattle.std.specs.List.{filter_map}
use Rattle.std.proofs.lemmas.List.Elements.{filter_map-append}
use Rattle.fd_column.specs.declared.table.LabelColumn.{LabelColumn}
use Rattle.fd_dictionary.specs.Dictionaries.{Cells}
use Rattle.fd_column.specs.LabelColumns.{pair_at, pairs_at}
use Rattle.fd_column.proofs.Steps.{taken}

pub pairs_more : (columns : List (LabelColumn Cells)) (at : ℕ) (c : LabelColumn Cells) (place : ℕ) → at < length columns → c ≡ get_or columns at c → pairs_at (take (at + 1) columns) place ≡ pairs_at (take at columns) place ++ filter_map (pair_at place) (c ∷ [])
pairs_more columns at c place inside is =
    ap (filter_map (pair_at place)) (taken columns at c inside is) ∙ filter_map-append (pair_at place) (take at columns) (c ∷ [])
