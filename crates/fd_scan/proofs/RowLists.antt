-- The rows at places, as places are gone through.
use Rattle.std.proofs.Common.{◌≡◌, ℕ, ◌+◌, ◌<◌, List, [], ◌∷◌, ◌++◌, length, map, get_or, take, sym, ◌∙◌, ap, append_assoc}
use Rattle.std.proofs.lemmas.List.{map-append, take_more}
use Rattle.fd_kinds.specs.declared.row.Row.{Row}
use Rattle.fd_kinds.specs.declared.row.Numbered.{Numbered}
use Rattle.fd_scan.specs.RowPlaces.{row_at, rows_at}

-- one more place
pub places_more : (columns : List Numbered) (rows : List Row) (places : List ℕ) (i d : ℕ) → i < length places → (rows ++ rows_at columns (take i places)) ++ row_at columns (get_or places i d) ∷ [] ≡ rows ++ rows_at columns (take (i + 1) places)
places_more columns rows places i d within =
    append_assoc rows (rows_at columns (take i places)) (row_at columns (get_or places i d) ∷ [])
    ∙ ap (λ l. rows ++ l)
    (sym (map-append (row_at columns) (take i places) (get_or places i d ∷ []))
    ∙ ap (map (row_at columns)) (sym (take_more places i d within)))
