-- Looking into a JSON value (RFC 8259), where a missing member and one that is null count as empty.
use Rattle.std.specs.Prelude.{ℕ, List, [], ◌∷◌, Bool, Option, Some, None, option_map, option_and_then, is_some, if◌then◌else◌}
use Rattle.std.specs.Str.{is_utf8}
use Rattle.serde_json.specs.Data.{Data, null, Items, no_items, item}
use Rattle.serde_json.specs.Find.{as_str, as_array, as_object}
use Rattle.serde_json.specs.Read.{read}

-- the value of a body, which is UTF-8 and nests at most 127 deep; of a repeated member the last counts
abbrev pub json_of : List ℕ → Option Data
json_of bytes = if is_utf8 bytes then read bytes else None

abbrev pub is_object : Data → Bool
is_object d = is_some (as_object d)

abbrev pub list_of : Items → List Data
list_of no_items = []
list_of (item d ds) = d ∷ list_of ds

-- a missing or null text is empty, and a value of another kind has no text
abbrev pub text_or_empty : Option Data → Option (List ℕ)
text_or_empty None = Some []
text_or_empty (Some null) = Some []
text_or_empty (Some d) = as_str d

-- a missing or null list is empty, and a value of another kind has no items
abbrev pub items_or_empty : Option Data → Option (List Data)
items_or_empty None = Some []
items_or_empty (Some null) = Some []
items_or_empty (Some d) = option_map list_of (as_array d)

-- f of each, where it has a value for each
abbrev pub each : {A B : Type 0} → (A → Option B) → List A → Option (List B)
each f [] = Some []
each f (x ∷ xs) = option_and_then (λ y. option_map (λ ys. y ∷ ys) (each f xs)) (f x)
