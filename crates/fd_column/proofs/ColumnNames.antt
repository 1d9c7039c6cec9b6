-- The concrete names of the columns of rows.
use Rattle.std.proofs.Common.{◌≡◌, ℕ, List, [], ◌∷◌, ◌++◌, map, refl, sym, ◌∙◌, ap}
use Rattle.std.specs.Prelude.{codes}
use Rattle.std.proofs.lemmas.List.{map-append, append_assoc}
use Rattle.fd_kinds.specs.declared.pair.Pair.{Pair}
use Rattle.fd_kinds.specs.declared.row.Numbered.{Numbered}
use Rattle.fd_column.specs.declared.table.Table.{Table}
use Rattle.fd_dictionary.specs.Dictionaries.{Cells}
use Rattle.fd_column.specs.Cells.{label, pprof_label, column_name, fixed_columns, column_names, names_in, series_pairs, pprof_pairs}
use Rattle.fd_column.specs.LabelColumns.{label_column}
use Rattle.fd_column.specs.Tables.{IsTableOf}

series_names : (maps : List (List Pair)) (names : List (List ℕ)) → map (λ column. codes "labels." ++ column.name) (map (label_column maps) names) ≡ map column_name (map label names)
series_names maps [] = refl
series_names maps (name ∷ names) = ap (λ ns. (codes "labels." ++ name) ∷ ns) (series_names maps names)

pprof_names : (maps : List (List Pair)) (names : List (List ℕ)) → map (λ column. codes "pprof_labels." ++ column.name) (map (label_column maps) names) ≡ map column_name (map pprof_label names)
pprof_names maps [] = refl
pprof_names maps (name ∷ names) = ap (λ ns. (codes "pprof_labels." ++ name) ∷ ns) (pprof_names maps names)

pub names_are : (t : Table Cells) (rows : List Numbered) → IsTableOf t rows → map column_name fixed_columns ++ map (λ column. codes "labels." ++ column.name) t.labels ++ map (λ column. codes "pprof_labels." ++ column.name) t.pprof_labels ≡ column_names rows
names_are t rows is =
    append_assoc (map column_name fixed_columns) (map (λ column. codes "labels." ++ column.name) t.labels) (map (λ column. codes "pprof_labels." ++ column.name) t.pprof_labels)
    ∙ ap (λ ns. map column_name fixed_columns ++ ns) (λ i. series i ++ pprof i)
    ∙ ap (λ ns. map column_name fixed_columns ++ ns) (sym (map-append column_name (map label (names_in (series_pairs rows))) (map pprof_label (names_in (pprof_pairs rows)))))
    ∙ sym (map-append column_name fixed_columns (map label (names_in (series_pairs rows)) ++ map pprof_label (names_in (pprof_pairs rows))))
  where
    series : map (λ column. codes "labels." ++ column.name) t.labels ≡ map column_name (map label (names_in (series_pairs rows)))
    series = ap (map (λ column. codes "labels." ++ column.name)) is.labels ∙ series_names (series_pairs rows) (names_in (series_pairs rows))

    pprof : map (λ column. codes "pprof_labels." ++ column.name) t.pprof_labels ≡ map column_name (map pprof_label (names_in (pprof_pairs rows)))
    pprof = ap (map (λ column. codes "pprof_labels." ++ column.name)) is.pprof_labels ∙ pprof_names (pprof_pairs rows) (names_in (pprof_pairs rows))
