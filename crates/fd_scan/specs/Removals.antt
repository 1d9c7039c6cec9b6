-- Texts of a set, after texts are taken out again.
use Rattle.std.specs.Prelude.{ℕ, List, [], ◌∷◌}
use Rattle.std.specs.BTreeMap.{is_at}
use Rattle.std.specs.Set.{remove_key}
use Rattle.fd_lists.specs.Texts.{text_cmp}

-- the keys without the texts of the list, the last taken out first
abbrev pub undone : List (List ℕ) → List (List ℕ) → List (List ℕ)
undone keys [] = keys
undone keys (text ∷ texts) = remove_key (is_at (text_cmp text)) (undone keys texts)
