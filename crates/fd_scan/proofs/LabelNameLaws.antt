-- The labels that rows at places have, by the columns, are those of the rows.
use Rattle.std.proofs.Common.{◌≡◌, ℕ, zero, suc, ◌+◌, Bool, true, false, ◌||◌, cond, List, [], ◌∷◌, ◌++◌, map, take, refl, sym, ◌∙◌, ap, append-nil, append_assoc, slice_get, true≢false, arith}
use Rattle.std.proofs.lemmas.List.{map-append}
use Rattle.std.proofs.lemmas.List.Folds.{list_any-append}
use Rattle.std.proofs.lemmas.Grind.{flat_map-append}
use Rattle.std.specs.Prelude.{Option, Some, None, is_some, flat_map}
use Rattle.std.specs.List.{list_any}
use Rattle.std.specs.BTreeMap.{is_at}
use Rattle.std.specs.Ordering.{is_eq}
use Rattle.std.specs.Cmp.{Equal-is}
use Rattle.std.specs.Cmp.Lexicographic.{nat_list_cmp_total}
use Rattle.std.specs.FinMap.{IsAntisymmetric, slice_cmp-IsAntisymmetric, nat_cmp-IsAntisymmetric}
use Rattle.fd_kinds.specs.declared.pair.Pair.{Pair}
use Rattle.fd_kinds.specs.declared.row.Row.{Row}
use Rattle.fd_kinds.specs.declared.row.Numbered.{Numbered}
use Rattle.fd_kinds.specs.LabelMaps.{value_of}
use Rattle.fd_kinds.specs.Meaning.{distinct, label_names}
use Rattle.fd_lists.specs.Texts.{text_cmp}
use Rattle.fd_column.specs.Cells.{Column, label, pprof_label, column_name, columns_of, column_names, fixed_columns, names_in, series_pairs, pprof_pairs, column_texts}
use Rattle.fd_scan.specs.RowPlaces.{row_at, rows_at, empty_row}
use Rattle.fd_scan.specs.LabelNames.{any_cell, label_of, label_at, occurs, where_there, where_occurs, where_found, column_label, column_labels}
use Rattle.fd_scan.proofs.CellValues.{label_cell_read}
use Rattle.fd_scan.proofs.LabelColumns.{label_there}
use Rattle.fd_kinds.proofs.Distinct.{any_distinct}

same_text : IsAntisymmetric text_cmp
same_text = slice_cmp-IsAntisymmetric nat_cmp-IsAntisymmetric

abbrev any : List ℕ → List (List ℕ) → Bool
any q names = list_any (is_at (text_cmp q)) names

abbrev names_of : List Pair → List (List ℕ)
names_of pairs = map (λ pair. pair.name) pairs

abbrev row_names : Row → List (List ℕ)
row_names row = map (λ pair. pair.name) row.labels.pairs

-- ---- booleans

both_ways : (a b : Bool) → (a ≡ true → b ≡ true) → (b ≡ true → a ≡ true) → a ≡ b
both_ways true b f g = sym (f refl)
both_ways false true f g = g refl
both_ways false false f g = refl

or_right : (a b : Bool) → b ≡ true → (a || b) ≡ true
or_right true b h = refl
or_right false b h = h

or_left : (a b : Bool) → a ≡ true → (a || b) ≡ true
or_left a b h = ap (λ x. x || b) h

or_cases : (P : Type 0) (a b : Bool) → (a || b) ≡ true → (a ≡ true → P) → (b ≡ true → P) → P
or_cases P true b h f g = f refl
or_cases P false b h f g = g h

-- ---- names of rows

any_names : (q : List ℕ) (pairs : List Pair) → any q (names_of pairs) ≡ is_some (value_of pairs q)
any_names q [] = refl
any_names q (p ∷ ps) = by (is_eq (text_cmp q p.name)) (any_names q ps)
  where
    by : (b : Bool) → any q (names_of ps) ≡ is_some (value_of ps q) → (b || any q (names_of ps)) ≡ is_some (cond b (Some p.value) (value_of ps q))
    by true rest = refl
    by false rest = rest

any_rows : (rows : List Numbered) (q : List ℕ) (places : List ℕ) → any q (flat_map row_names (rows_at rows places)) ≡ occurs rows places q
any_rows rows q [] = refl
any_rows rows q (p ∷ ps) =
    list_any-append (is_at (text_cmp q)) (row_names (row_at rows p)) (flat_map row_names (rows_at rows ps))
    ∙ (λ i. any_names q (row_at rows p).labels.pairs i || any_rows rows q ps i)

-- ---- names of columns

same_name : (q n : List ℕ) → is_eq (text_cmp q n) ≡ true → q ≡ n
same_name q n e = same_text q n ((Equal-is (text_cmp q n)).0 e)

found_occurs : (rows : List Numbered) (places : List ℕ) (q : List ℕ) (o : Option (List ℕ)) → any q (where_found rows places o) ≡ true → occurs rows places q ≡ true
found_occurs rows places q None h = cc
found_occurs rows places q (Some n) h = by (occurs rows places n) refl h
  where
    by : (b : Bool) → occurs rows places n ≡ b → any q (cond b (n ∷ []) []) ≡ true → occurs rows places q ≡ true
    by true is h = or_cases (occurs rows places q ≡ true) (is_eq (text_cmp q n)) false h (λ e. ap (occurs rows places) (same_name q n e) ∙ is) (λ e. cc)
    by false is h = cc

any_occurs : (rows : List Numbered) (places : List ℕ) (q : List ℕ) (columns : List (List ℕ)) → any q (column_labels rows places columns) ≡ true → occurs rows places q ≡ true
any_occurs rows places q [] h = cc
any_occurs rows places q (c ∷ cs) h =
    or_cases (occurs rows places q ≡ true) (any q (column_label rows places c)) (any q (column_labels rows places cs))
    (sym (list_any-append (is_at (text_cmp q)) (column_label rows places c) (column_labels rows places cs)) ∙ h)
    (λ e. found_occurs rows places q (label_of c) e)
    (λ e. any_occurs rows places q cs e)

any_right : (rows : List Numbered) (places : List ℕ) (q : List ℕ) (before after : List (List ℕ)) → any q (column_labels rows places after) ≡ true → any q (column_labels rows places (before ++ after)) ≡ true
any_right rows places q before after h =
    ap (any q) (flat_map-append (column_label rows places) before after)
    ∙ list_any-append (is_at (text_cmp q)) (column_labels rows places before) (column_labels rows places after)
    ∙ or_right (any q (column_labels rows places before)) (any q (column_labels rows places after)) h

any_left : (rows : List Numbered) (places : List ℕ) (q : List ℕ) (before after : List (List ℕ)) → any q (column_labels rows places before) ≡ true → any q (column_labels rows places (before ++ after)) ≡ true
any_left rows places q before after h =
    ap (any q) (flat_map-append (column_label rows places) before after)
    ∙ list_any-append (is_at (text_cmp q)) (column_labels rows places before) (column_labels rows places after)
    ∙ or_left (any q (column_labels rows places before)) (any q (column_labels rows places after)) h

labels_there : (rows : List Numbered) (places : List ℕ) (q : List ℕ) (names : List (List ℕ)) → occurs rows places q ≡ true → any q names ≡ true → any q (column_labels rows places (map column_name (map label names))) ≡ true
labels_there rows places q [] is h = cc
labels_there rows places q (m ∷ ms) is h =
    list_any-append (is_at (text_cmp q)) (where_occurs rows places m) (column_labels rows places (map column_name (map label ms)))
    ∙ by (is_eq (text_cmp q m)) refl h (λ k. labels_there rows places q ms is k)
  where
    by : (b : Bool) → is_eq (text_cmp q m) ≡ b → (b || any q ms) ≡ true → (any q ms ≡ true → any q (column_labels rows places (map column_name (map label ms))) ≡ true) → (any q (where_occurs rows places m) || any q (column_labels rows places (map column_name (map label ms)))) ≡ true
    by true e h rest =
        let there : occurs rows places m ≡ true = ap (occurs rows places) (sym (same_name q m e)) ∙ is in
        or_left (any q (where_occurs rows places m)) _ (ap (λ b. any q (cond b (m ∷ []) [])) there ∙ ap (λ b. b || false) e)
    by false e h rest = or_right (any q (where_occurs rows places m)) _ (rest h)

row_named : (rows : List Numbered) (at : ℕ) (q : List ℕ) → is_some (value_of (row_at rows at).labels.pairs q) ≡ true → any q (flat_map names_of (series_pairs rows)) ≡ true
unfolding row_at empty_row
row_named [] at q h = absurd (true≢false (sym h))
row_named (n ∷ ns) zero q h =
    list_any-append (is_at (text_cmp q)) (names_of n.row.labels.pairs) (flat_map names_of (series_pairs ns))
    ∙ or_left (any q (names_of n.row.labels.pairs)) _ (any_names q n.row.labels.pairs ∙ h)
row_named (n ∷ ns) (suc at) q h =
    list_any-append (is_at (text_cmp q)) (names_of n.row.labels.pairs) (flat_map names_of (series_pairs ns))
    ∙ or_right (any q (names_of n.row.labels.pairs)) _ (row_named ns at q h)

occurs_named : (rows : List Numbered) (places : List ℕ) (q : List ℕ) → occurs rows places q ≡ true → any q (flat_map names_of (series_pairs rows)) ≡ true
occurs_named rows [] q h = cc
occurs_named rows (p ∷ ps) q h =
    or_cases (any q (flat_map names_of (series_pairs rows)) ≡ true) (is_some (value_of (row_at rows p).labels.pairs q)) (occurs rows ps q) h
    (λ e. row_named rows p q e)
    (λ e. occurs_named rows ps q e)

occurs_any : (rows : List Numbered) (places : List ℕ) (q : List ℕ) → occurs rows places q ≡ true → any q (column_labels rows places (column_names rows)) ≡ true
occurs_any rows places q h =
    let labels : List Column = map label (names_in (series_pairs rows)) in
    let others : List Column = map pprof_label (names_in (pprof_pairs rows)) in
    let named : any q (names_in (series_pairs rows)) ≡ true = any_distinct nat_list_cmp_total q (flat_map names_of (series_pairs rows)) ∙ occurs_named rows places q h in
    ap (λ l. any q (column_labels rows places l)) (map-append column_name fixed_columns (labels ++ others))
    ∙ any_right rows places q (map column_name fixed_columns) (map column_name (labels ++ others))
    (ap (λ l. any q (column_labels rows places l)) (map-append column_name labels others)
    ∙ any_left rows places q (map column_name labels) (map column_name others) (labels_there rows places q (names_in (series_pairs rows)) h named))

any_columns : (rows : List Numbered) (places : List ℕ) (q : List ℕ) → any q (column_labels rows places (column_names rows)) ≡ occurs rows places q
any_columns rows places q =
    both_ways (any q (column_labels rows places (column_names rows))) (occurs rows places q)
    (λ h. any_occurs rows places q (column_names rows) h)
    (λ h. occurs_any rows places q h)

-- the labels by the columns are the names of the rows
pub names_more : (rows : List Numbered) (places : List ℕ) (before : List Row) → (IsAntisymmetric text_cmp → (xs ys : List (List ℕ)) → ((q : List ℕ) → any q xs ≡ any q ys) → distinct text_cmp xs ≡ distinct text_cmp ys) → distinct text_cmp (flat_map row_names before ++ column_labels rows places (column_names rows)) ≡ label_names (before ++ rows_at rows places)
names_more rows places before same =
    same same_text (items ++ columns) (items ++ names)
    (λ q.
    list_any-append (is_at (text_cmp q)) items columns
    ∙ ap (λ b. any q items || b) (any_columns rows places q ∙ sym (any_rows rows q places))
    ∙ sym (list_any-append (is_at (text_cmp q)) items names))
    ∙ ap (distinct text_cmp) (sym (flat_map-append row_names before (rows_at rows places)))
  where
    items : List (List ℕ)
    items = flat_map row_names before

    columns : List (List ℕ)
    columns = column_labels rows places (column_names rows)

    names : List (List ℕ)
    names = flat_map row_names (rows_at rows places)

-- ---- cells

-- the cells of the label's column
cells_occur : (rows : List Numbered) (column : ℕ) (name : List ℕ) (places : List ℕ) → slice_get (columns_of rows) column ≡ Some (label name) → any_cell (column_texts rows column) places ≡ occurs rows places name
cells_occur rows column name [] is = refl
cells_occur rows column name (p ∷ ps) is = λ i. is_some (label_cell_read rows column p name is i) || cells_occur rows column name ps is i

-- a label that a cell of its column at the places has
pub cells_found : (rows : List Numbered) (places : List ℕ) (column : ℕ) (name : List ℕ) → label_at (column_names rows) column ≡ Some name → where_there (column_texts rows column) places name ≡ where_found rows places (label_at (column_names rows) column)
cells_found rows places column name is =
    ap (λ b. cond b (name ∷ []) []) (cells_occur rows column name places (label_there rows column name is))
    ∙ ap (where_found rows places) (sym is)

-- ---- steps

label_more : (rows : List Numbered) (places : List ℕ) (columns : List (List ℕ)) (i : ℕ) → column_labels rows places (take i columns) ++ where_found rows places (label_at columns i) ≡ column_labels rows places (take (suc i) columns)
label_more rows places [] zero = refl
label_more rows places [] (suc i) = refl
label_more rows places (c ∷ cs) zero = sym (append-nil (column_label rows places c))
label_more rows places (c ∷ cs) (suc i) =
    append_assoc (column_label rows places c) (column_labels rows places (take i cs)) (where_found rows places (label_at cs i))
    ∙ ap (λ l. column_label rows places c ++ l) (label_more rows places cs i)

-- one more column
pub labels_more : (rows : List Numbered) (places : List ℕ) (items columns : List (List ℕ)) (i : ℕ) → (items ++ column_labels rows places (take i columns)) ++ where_found rows places (label_at columns i) ≡ items ++ column_labels rows places (take (i + 1) columns)
labels_more rows places items columns i =
    let next : suc i ≡ i + 1 = omega arith in
    append_assoc items (column_labels rows places (take i columns)) (where_found rows places (label_at columns i))
    ∙ ap (λ l. items ++ l) (label_more rows places columns i ∙ ap (λ n. column_labels rows places (take n columns)) next)
