-- A table has few columns where its rows are small: each column of a label costs a row a byte at least.
use Rattle.std.proofs.Common.{◌≡◌, ℕ, suc, ◌+◌, ◌<◌, ◌≤◌, ◌^◌, List, [], ◌∷◌, ◌++◌, length, map, fold, sum_by, flat_map, refl, ap, ◌∙◌, arith, length-append}
use Rattle.std.specs.declared.cmp.Ordering.{Ordering}
use Rattle.std.specs.declared.cmp.Ordering.TheVariants.{Less, Equal, Greater}
use Rattle.std.specs.BTreeSet.{insert_key}
use Rattle.std.proofs.lemmas.List.{length-map}
use Rattle.std.proofs.lemmas.List.Sums.{sum_by-cons}
use Rattle.fd_kinds.specs.declared.pair.Pair.{Pair}
use Rattle.fd_kinds.specs.declared.row.Numbered.{Numbered}
use Rattle.fd_lists.specs.Texts.{text_cmp}
use Rattle.fd_kinds.specs.RowSize.{pair_size, row_size}
use Rattle.fd_column.specs.Cells.{label, pprof_label, columns_of, series_pairs, pprof_pairs, names_in}
use Rattle.fd_table_file.specs.Columns.{file_column}
use Rattle.fd_table_file.specs.Files.{IsSmall}

insert_by : {K : Type 0} (cmp : K → K → Ordering) (x : K) (xs : List K) (k : K) (o : Ordering) → cmp k x ≡ o → length (insert_key cmp xs k) ≤ suc (length xs)
    → length (insert_key cmp (x ∷ xs) k) ≤ suc (length (x ∷ xs))
insert_by cmp x xs k Less e others = rw e (omega arith)
insert_by cmp x xs k Equal e others = rw e (omega arith)
insert_by cmp x xs k Greater e others = rw e (omega (arith, others))

insert_length : {K : Type 0} (cmp : K → K → Ordering) (ks : List K) (k : K) → length (insert_key cmp ks k) ≤ suc (length ks)
insert_length cmp [] k = omega arith
insert_length cmp (x ∷ xs) k = insert_by cmp x xs k (cmp k x) refl (insert_length cmp xs k)

distinct_length : {K : Type 0} (cmp : K → K → Ordering) (ks items : List K) → length (fold (insert_key cmp) ks items) ≤ length ks + length items
distinct_length cmp ks [] = omega arith
distinct_length cmp ks (x ∷ items) = omega (arith, distinct_length cmp (insert_key cmp ks x) items, insert_length cmp ks x)

pairs_few : (pairs : List Pair) → length pairs ≤ sum_by pair_size pairs
pairs_few [] = omega arith
pairs_few (p ∷ pairs) = omega (arith, pairs_few pairs, sum_by-cons pair_size p pairs)

abbrev names : List (List Pair) → List (List ℕ)
names maps = flat_map (λ pairs. map (λ pair. pair.name) pairs) maps

names_more : (pairs : List Pair) (maps : List (List Pair)) → length (names (pairs ∷ maps)) ≡ length pairs + length (names maps)
names_more pairs maps =
    length-append (map (λ (pair : Pair). pair.name) pairs) (names maps) ∙ ap (λ n. n + length (names maps)) (length-map pairs (λ (pair : Pair). pair.name))

names_few : (rows : List Numbered) → length (names (series_pairs rows)) + length (names (pprof_pairs rows)) ≤ sum_by (λ n. row_size n.row) rows
names_few [] = omega arith
names_few (n ∷ rows) =
    omega (
      arith,
      names_few rows,
      names_more n.row.labels.pairs (series_pairs rows),
      names_more n.row.pprof_labels.pairs (pprof_pairs rows),
      pairs_few n.row.labels.pairs,
      pairs_few n.row.pprof_labels.pairs,
      sum_by-cons (λ n. row_size n.row) n rows,
    )

label_columns : (rows : List Numbered) → length (names_in (series_pairs rows)) + length (names_in (pprof_pairs rows)) ≤ sum_by (λ n. row_size n.row) rows
label_columns rows =
    omega (arith, distinct_length text_cmp [] (names (series_pairs rows)), distinct_length text_cmp [] (names (pprof_pairs rows)), names_few rows)

columns_count : (series pprof : List (List ℕ)) → length (map label series ++ map pprof_label pprof) ≡ length series + length pprof
columns_count series pprof =
    length-append (map label series) (map pprof_label pprof) ∙ ap (λ n. n + length (map pprof_label pprof)) (length-map series label) ∙ ap (λ n. length series + n) (length-map pprof pprof_label)

pub columns_few : (rows : List Numbered) → IsSmall rows → length (map file_column (columns_of rows)) < 2 ^ 31
columns_few rows small =
    omega (arith, small, label_columns rows, columns_count (names_in (series_pairs rows)) (names_in (pprof_pairs rows)), length-map (columns_of rows) file_column)
