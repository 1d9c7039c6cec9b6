-- What the columns have at a column and a row is the cell of that row.
use Rattle.std.proofs.Common.{◌≡◌, ◌≢◌, ℕ, zero, suc, ◌-◌, ◌<◌, ◌≤◌, List, [], ◌∷◌, ◌++◌, map, length, refl, sym, ◌∙◌, ap, arith}
use Rattle.std.specs.Prelude.{ℤ, pos, Option, Some, None, option_map, slice_get, ◌^◌, All}
use Rattle.std.specs.Option.{option_and_then}
use Rattle.std.proofs.lemmas.List.{length-map}
use Rattle.std.proofs.lemmas.Option.{slice_get-map}
use Rattle.std.proofs.lemmas.List.Elements.{All-map}
use Rattle.fd_kinds.specs.declared.pair.Pair.{Pair}
use Rattle.fd_kinds.specs.declared.row.Numbered.{Numbered}
use Rattle.fd_kinds.specs.LabelMaps.{value_of}
use Rattle.fd_column.specs.declared.table.Table.{Table}
use Rattle.fd_dictionary.specs.Dictionaries.{Cells}
use Rattle.fd_column.specs.Cells.{Column, label, pprof_label, cell_of, label_cell, fixed_columns, columns_of, meeting, cell_at, text_in, whole_in, names_in, series_pairs, pprof_pairs}
use Rattle.fd_column.specs.LabelColumns.{label_column, labelled_cell}
use Rattle.fd_column.specs.RowNumbers.{IsNumber}
use Rattle.fd_column.specs.Tables.{IsTableOf}
use Rattle.fd_column.proofs.TableLaws.{whole_back}

pub slice_get_left : {X : Type 0} (xs ys : List X) (at : ℕ) → at < length xs → slice_get (xs ++ ys) at ≡ slice_get xs at
slice_get_left [] ys at h = absurd (omega (arith, h))
slice_get_left (x ∷ xs) ys zero h = refl
slice_get_left (x ∷ xs) ys (suc at) h = slice_get_left xs ys at (omega (arith, h))

pub slice_get_right : {X : Type 0} (xs ys : List X) (at : ℕ) → length xs ≤ at → slice_get (xs ++ ys) at ≡ slice_get ys (at - length xs)
slice_get_right [] ys at h = ap (slice_get ys) (omega arith)
slice_get_right (x ∷ xs) ys zero h = absurd (omega (arith, h))
slice_get_right (x ∷ xs) ys (suc at) h = slice_get_right xs ys at (omega (arith, h)) ∙ ap (slice_get ys) (omega arith)

pub text_of_label : (o : Option (List ℕ)) → text_in (label_cell o) ≡ o
text_of_label None = refl
text_of_label (Some v) = refl

-- a column of a label, by what makes a column of its name
labelled_text : (make : List ℕ → Column) (pairs_of : Numbered → List Pair) (rows : List Numbered) (at : ℕ) (n : Numbered) → ((name : List ℕ) → cell_of (make name) n ≡ label_cell (value_of (pairs_of n) name)) → slice_get rows at ≡ Some n → (names : List (List ℕ)) (k : ℕ) → labelled_cell (map (label_column (map pairs_of rows)) names) k at ≡ text_in (meeting (slice_get (map make names) k) (slice_get rows at))
labelled_text make pairs_of rows at n cells there [] k = refl
labelled_text make pairs_of rows at n cells there (name ∷ names) zero =
    ap (option_and_then (λ cell. cell)) (slice_get-map (λ pairs. value_of pairs name) (map pairs_of rows) at ∙ ap (option_map (λ pairs. value_of pairs name)) (slice_get-map pairs_of rows at ∙ ap (option_map pairs_of) there))
    ∙ sym (text_of_label (value_of (pairs_of n) name))
    ∙ ap text_in (sym (cells name))
    ∙ ap (λ o. text_in (meeting (Some (make name)) o)) (sym there)
labelled_text make pairs_of rows at n cells there (name ∷ names) (suc k) = labelled_text make pairs_of rows at n cells there names k

-- the columns behind the fixed ones
abbrev pub others : List Numbered → List Column
others rows = map label (names_in (series_pairs rows)) ++ map pprof_label (names_in (pprof_pairs rows))

pub behind : (rows : List Numbered) (column k : ℕ) → 11 ≤ column → k ≡ column - 11 → slice_get (columns_of rows) column ≡ slice_get (others rows) k
behind rows column k h is = slice_get_right fixed_columns (others rows) column h ∙ ap (slice_get (others rows)) (sym is)

pub count_is : (t : Table Cells) (rows : List Numbered) → IsTableOf t rows → length t.labels ≡ length (map label (names_in (series_pairs rows)))
count_is t rows is =
    ap length is.labels
    ∙ length-map (names_in (series_pairs rows)) (label_column (series_pairs rows))
    ∙ sym (length-map (names_in (series_pairs rows)) label)

pub series_text : (t : Table Cells) (rows : List Numbered) (column k at : ℕ) (n : Numbered) → IsTableOf t rows → slice_get rows at ≡ Some n → 11 ≤ column → k ≡ column - 11 → k < length t.labels → labelled_cell t.labels k at ≡ text_in (cell_at rows column at)
series_text t rows column k at n is there h k_is inside =
    ap (λ cs. labelled_cell cs k at) is.labels
    ∙ labelled_text label (λ n. n.row.labels.pairs) rows at n (λ name. refl) there (names_in (series_pairs rows)) k
    ∙ ap (λ o. text_in (meeting o (slice_get rows at))) (sym (behind rows column k h k_is ∙ slice_get_left (map label (names_in (series_pairs rows))) (map pprof_label (names_in (pprof_pairs rows))) k (rw (sym (count_is t rows is)) inside)))

pub pprof_text : (t : Table Cells) (rows : List Numbered) (column k at : ℕ) (n : Numbered) → IsTableOf t rows → slice_get rows at ≡ Some n → 11 ≤ column → k ≡ column - 11 → length t.labels ≤ k → labelled_cell t.pprof_labels (k - length t.labels) at ≡ text_in (cell_at rows column at)
pprof_text t rows column k at n is there h k_is past =
    ap (λ cs. labelled_cell cs (k - length t.labels) at) is.pprof_labels
    ∙ labelled_text pprof_label (λ n. n.row.pprof_labels.pairs) rows at n (λ name. refl) there (names_in (pprof_pairs rows)) (k - length t.labels)
    ∙ ap (λ o. text_in (meeting o (slice_get rows at))) (sym (behind rows column k h k_is ∙ slice_get_right (map label (names_in (series_pairs rows))) (map pprof_label (names_in (pprof_pairs rows))) k (rw (sym (count_is t rows is)) past) ∙ ap (λ c. slice_get (map pprof_label (names_in (pprof_pairs rows))) (k - c)) (sym (count_is t rows is))))

no_whole_label : (o : Option (List ℕ)) → whole_in (label_cell o) ≡ None
no_whole_label None = refl
no_whole_label (Some v) = refl

no_whole_there : (names : List (List ℕ)) (k : ℕ) (o : Option Numbered) → whole_in (meeting (slice_get (map pprof_label names) k) o) ≡ None
no_whole_there [] k o = refl
no_whole_there (name ∷ names) zero None = refl
no_whole_there (name ∷ names) zero (Some n) = no_whole_label (value_of n.row.pprof_labels.pairs name)
no_whole_there (name ∷ names) (suc k) o = no_whole_there names k o

pub no_whole_behind : (names more : List (List ℕ)) (k : ℕ) (o : Option Numbered) → whole_in (meeting (slice_get (map label names ++ map pprof_label more) k) o) ≡ None
no_whole_behind [] more k o = no_whole_there more k o
no_whole_behind (name ∷ names) more zero None = refl
no_whole_behind (name ∷ names) more zero (Some n) = no_whole_label (value_of n.row.labels.pairs name)
no_whole_behind (name ∷ names) more (suc k) o = no_whole_behind names more k o

-- The columns of whole numbers are the first, and the seventh, ninth, tenth and eleventh.
pub no_whole : (rows : List Numbered) (column at : ℕ) → column ≢ 0 → column ≢ 6 → column ≢ 8 → column ≢ 9 → column ≢ 10 → whole_in (cell_at rows column at) ≡ None
no_whole rows column at a b c d e = by column a b c d e (slice_get rows at)
  where
    by : (column : ℕ) → column ≢ 0 → column ≢ 6 → column ≢ 8 → column ≢ 9 → column ≢ 10 → (o : Option Numbered) → whole_in (meeting (slice_get (columns_of rows) column) o) ≡ None
    by zero a b c d e o = absurd (a refl)
    by (suc zero) a b c d e None = refl
    by (suc zero) a b c d e (Some n) = refl
    by (suc (suc zero)) a b c d e None = refl
    by (suc (suc zero)) a b c d e (Some n) = refl
    by (suc (suc (suc zero))) a b c d e None = refl
    by (suc (suc (suc zero))) a b c d e (Some n) = refl
    by (suc (suc (suc (suc zero)))) a b c d e None = refl
    by (suc (suc (suc (suc zero)))) a b c d e (Some n) = refl
    by (suc (suc (suc (suc (suc zero))))) a b c d e None = refl
    by (suc (suc (suc (suc (suc zero))))) a b c d e (Some n) = refl
    by (suc (suc (suc (suc (suc (suc zero)))))) a b c d e o = absurd (b refl)
    by (suc (suc (suc (suc (suc (suc (suc zero))))))) a b c d e None = refl
    by (suc (suc (suc (suc (suc (suc (suc zero))))))) a b c d e (Some n) = refl
    by (suc (suc (suc (suc (suc (suc (suc (suc zero)))))))) a b c d e o = absurd (c refl)
    by (suc (suc (suc (suc (suc (suc (suc (suc (suc zero))))))))) a b c d e o = absurd (d refl)
    by (suc (suc (suc (suc (suc (suc (suc (suc (suc (suc zero)))))))))) a b c d e o = absurd (e refl)
    by (suc (suc (suc (suc (suc (suc (suc (suc (suc (suc (suc column))))))))))) a b c d e o =
        no_whole_behind (names_in (series_pairs rows)) (names_in (pprof_pairs rows)) column o

-- A column of whole numbers, by its place among the fixed ones.
pub whole_there : (f : Numbered → ℤ) (xs : List ℤ) (rows : List Numbered) (k column at : ℕ) (n : Numbered) → xs ≡ map f rows → slice_get rows at ≡ Some n → column ≡ k → whole_in (meeting (slice_get (columns_of rows) k) (Some n)) ≡ Some (f n) → slice_get xs at ≡ whole_in (cell_at rows column at)
whole_there f xs rows k column at n is there column_is cell =
    whole_back f xs rows at n is there
    ∙ sym (ap (λ c. whole_in (cell_at rows c at)) column_is ∙ ap (λ o. whole_in (meeting (slice_get (columns_of rows) k) o)) there ∙ cell)

pub number_there : (xs : List ℕ) (rows : List Numbered) (column at : ℕ) (n : Numbered) → xs ≡ map (λ n. n.number) rows → slice_get rows at ≡ Some n → column ≡ 0 → option_map (λ number. pos number) (slice_get xs at) ≡ whole_in (cell_at rows column at)
number_there xs rows column at n is there column_is =
    ap (option_map (λ number. pos number)) (whole_back (λ n. n.number) xs rows at n is there)
    ∙ sym (ap (λ c. whole_in (cell_at rows c at)) column_is ∙ ap (λ o. whole_in (meeting (slice_get (columns_of rows) 0) o)) there)

pub numbers_small : (xs : List ℕ) (rows : List Numbered) → xs ≡ map (λ n. n.number) rows → All IsNumber rows → All (λ number. number < 2 ^ 63) xs
numbers_small xs rows is small = rw is (All-map (λ number. number < 2 ^ 63) (λ (n : Numbered). n.number) rows small)
