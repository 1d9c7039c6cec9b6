-- The columns of rows give the rows back, and one more row gives the columns of one more row.
use Rattle.std.proofs.Common.{◌≡◌, ℕ, ◌<◌, ◌^◌, List, [], ◌∷◌, ◌++◌, map, length, get_or, refl, sym, ◌∙◌, ap, subst, arith}
use Rattle.std.specs.Prelude.{ℤ, pos, Some, option_map, unwrap_or, slice_get}
use Rattle.std.specs.List.{range_with_len}
use Rattle.std.specs.Option.{option_and_then}
use Rattle.std.proofs.lemmas.List.{map-append, length-map}
use Rattle.std.proofs.lemmas.List.FromFn.{fill_by_all, length-map-range_with_len, get_or-map-range_with_len}
use Rattle.std.proofs.lemmas.List.Elements.{All-get_or, All-push, All-nil}
use Rattle.std.proofs.lemmas.Option.{slice_get-map, slice_get-get_or}
use Rattle.fd_kinds.specs.declared.pair.Pair.{Pair}
use Rattle.fd_kinds.specs.declared.row.Numbered.{Numbered}
use Rattle.fd_column.specs.declared.table.Table.{Table}
use Rattle.fd_dictionary.specs.Dictionaries.{Cells, cell_in}
use Rattle.fd_column.specs.Stacks.{stack_bytes, frames_of, AreShort}
use Rattle.fd_column.specs.Cells.{series_pairs, pprof_pairs}
use Rattle.fd_column.specs.LabelColumns.{label_columns, with_value, add_columns, pairs_at}
use Rattle.fd_column.specs.RowNumbers.{IsNumber}
use Rattle.fd_column.specs.Texts.{HasTexts}
use Rattle.fd_column.specs.Tables.{IsTableOf, GrowsBy, AreHeld, IsGrowing, text_at, number_in, number_at, row_at, rows_of_table}
use Rattle.fd_column.proofs.LabelGrowth.{labels_grow}
use Rattle.fd_column.proofs.RowLabels.{pairs_of_row, labels_from_is}
use Rattle.fd_column.proofs.StackLaws.{frames_of_stack}

-- a column of a function of the rows, and one more row
column_grows : {X : Type 0} (f : Numbered → X) (old new : List X) (rows : List Numbered) (n : Numbered) → old ≡ map f rows → new ≡ old ++ f n ∷ [] → new ≡ map f (rows ++ n ∷ [])
column_grows f old new rows n is grows = grows ∙ ap (λ xs. xs ++ f n ∷ []) is ∙ sym (map-append f rows (n ∷ []))

labels_of_more : (pairs_of : Numbered → List Pair) (rows : List Numbered) (n : Numbered) (count : ℕ) → count ≡ length rows → map (with_value (pairs_of n)) (add_columns count (label_columns (map pairs_of rows)) (pairs_of n)) ≡ label_columns (map pairs_of (rows ++ n ∷ []))
labels_of_more pairs_of rows n count is =
    ap (λ k. map (with_value (pairs_of n)) (add_columns k (label_columns (map pairs_of rows)) (pairs_of n))) (is ∙ sym (length-map rows pairs_of))
    ∙ labels_grow (map pairs_of rows) (pairs_of n)
    ∙ ap label_columns (sym (map-append pairs_of rows (n ∷ [])))

pub table_grows : (old new : Table Cells) (rows : List Numbered) (n : Numbered) → IsTableOf old rows → GrowsBy n old new → IsTableOf new (rows ++ n ∷ [])
table_grows old new rows n is grows = record {
  numbers = column_grows (λ n. n.number) old.numbers new.numbers rows n is.numbers grows.numbers;
  kinds = record {
    name = column_grows (λ n. Some n.row.name) old.kinds.name new.kinds.name rows n is.kinds.name grows.kinds.name;
    sample_type = column_grows (λ n. Some n.row.sample_type) old.kinds.sample_type new.kinds.sample_type rows n is.kinds.sample_type grows.kinds.sample_type;
    sample_unit = column_grows (λ n. Some n.row.sample_unit) old.kinds.sample_unit new.kinds.sample_unit rows n is.kinds.sample_unit grows.kinds.sample_unit;
    period_type = column_grows (λ n. Some n.row.period_type) old.kinds.period_type new.kinds.period_type rows n is.kinds.period_type grows.kinds.period_type;
    period_unit = column_grows (λ n. Some n.row.period_unit) old.kinds.period_unit new.kinds.period_unit rows n is.kinds.period_unit grows.kinds.period_unit;
  };
  labels = grows.labels ∙ ap (λ cs. map (with_value n.row.labels.pairs) (add_columns (length old.numbers) cs n.row.labels.pairs)) is.labels ∙ labels_of_more (λ n. n.row.labels.pairs) rows n (length old.numbers) count;
  stacks = column_grows (λ n. Some (stack_bytes n.row.stack)) old.stacks new.stacks rows n is.stacks grows.stacks;
  pprof_labels = grows.pprof_labels ∙ ap (λ cs. map (with_value n.row.pprof_labels.pairs) (add_columns (length old.numbers) cs n.row.pprof_labels.pairs)) is.pprof_labels ∙ labels_of_more (λ n. n.row.pprof_labels.pairs) rows n (length old.numbers) count;
  wholes = record {
    timestamps = column_grows (λ n. n.row.timestamp) old.wholes.timestamps new.wholes.timestamps rows n is.wholes.timestamps grows.wholes.timestamps;
    periods = column_grows (λ n. n.row.period) old.wholes.periods new.wholes.periods rows n is.wholes.periods grows.wholes.periods;
    durations = column_grows (λ n. n.row.duration) old.wholes.durations new.wholes.durations rows n is.wholes.durations grows.wholes.durations;
    values = column_grows (λ n. n.row.value) old.wholes.values new.wholes.values rows n is.wholes.values grows.wholes.values;
  };
}
  where
    count : length old.numbers ≡ length rows
    count = ap length is.numbers ∙ length-map rows (λ n. n.number)

-- what a column of texts, of numbers or of labels has at the place of a row
pub text_back : (f : Numbered → List ℕ) (cells : Cells) (rows : List Numbered) (at : ℕ) (n : Numbered) → cells ≡ map (λ n. Some (f n)) rows → slice_get rows at ≡ Some n → cell_in cells at ≡ Some (f n)
text_back f cells rows at n is there =
    ap (λ cs. cell_in cs at) is
    ∙ ap (option_and_then (λ cell. cell)) (slice_get-map (λ n. Some (f n)) rows at ∙ ap (option_map (λ n. Some (f n))) there)

pub whole_back : {X : Type 0} (f : Numbered → X) (xs : List X) (rows : List Numbered) (at : ℕ) (n : Numbered) → xs ≡ map f rows → slice_get rows at ≡ Some n → slice_get xs at ≡ Some (f n)
whole_back f xs rows at n is there = ap (λ xs. slice_get xs at) is ∙ slice_get-map f rows at ∙ ap (option_map f) there

pub labels_back : (pairs_of : Numbered → List Pair) (rows : List Numbered) (at : ℕ) (n : Numbered) → slice_get rows at ≡ Some n → slice_get (map pairs_of rows) at ≡ Some (pairs_of n)
labels_back pairs_of rows at n there = slice_get-map pairs_of rows at ∙ ap (option_map pairs_of) there

pub row_labels : (t : Table Cells) (rows : List Numbered) (at : ℕ) (n : Numbered) → IsTableOf t rows → slice_get rows at ≡ Some n → pairs_at t.labels at ≡ n.row.labels.pairs
row_labels t rows at n is there =
    ap (λ cs. pairs_at cs at) is.labels
    ∙ pairs_of_row (series_pairs rows) at n.row.labels.pairs (labels_back (λ n. n.row.labels.pairs) rows at n there) n.row.labels.in_order

pub row_pprof_labels : (t : Table Cells) (rows : List Numbered) (at : ℕ) (n : Numbered) → IsTableOf t rows → slice_get rows at ≡ Some n → pairs_at t.pprof_labels at ≡ n.row.pprof_labels.pairs
row_pprof_labels t rows at n is there =
    ap (λ cs. pairs_at cs at) is.pprof_labels
    ∙ pairs_of_row (pprof_pairs rows) at n.row.pprof_labels.pairs (labels_back (λ n. n.row.pprof_labels.pairs) rows at n there) n.row.pprof_labels.in_order

pub row_back : (t : Table Cells) (rows : List Numbered) (at : ℕ) (n : Numbered) → IsTableOf t rows → AreShort n.row.stack → slice_get rows at ≡ Some n → row_at t at ≡ n
row_back t rows at n is short there = λ i. record {
  number = number i;
  row = record {
    name = text (λ n. n.row.name) t.kinds.name is.kinds.name i;
    sample_type = text (λ n. n.row.sample_type) t.kinds.sample_type is.kinds.sample_type i;
    sample_unit = text (λ n. n.row.sample_unit) t.kinds.sample_unit is.kinds.sample_unit i;
    period_type = text (λ n. n.row.period_type) t.kinds.period_type is.kinds.period_type i;
    period_unit = text (λ n. n.row.period_unit) t.kinds.period_unit is.kinds.period_unit i;
    labels = labels_from_is n.row.labels (pairs_at t.labels at) (row_labels t rows at n is there) i;
    timestamp = whole (λ n. n.row.timestamp) t.wholes.timestamps is.wholes.timestamps i;
    stack = (ap frames_of (text (λ n. stack_bytes n.row.stack) t.stacks is.stacks) ∙ frames_of_stack n.row.stack short) i;
    pprof_labels = labels_from_is n.row.pprof_labels (pairs_at t.pprof_labels at) (row_pprof_labels t rows at n is there) i;
    period = whole (λ n. n.row.period) t.wholes.periods is.wholes.periods i;
    duration = whole (λ n. n.row.duration) t.wholes.durations is.wholes.durations i;
    value = whole (λ n. n.row.value) t.wholes.values is.wholes.values i;
  };
}
  where
    text : (f : Numbered → List ℕ) (cells : Cells) → cells ≡ map (λ n. Some (f n)) rows → text_at cells at ≡ f n
    text f cells same = ap (λ o. unwrap_or o []) (text_back f cells rows at n same there)

    whole : (f : Numbered → ℤ) (xs : List ℤ) → xs ≡ map f rows → number_at xs at ≡ f n
    whole f xs same = ap (λ o. unwrap_or o (pos 0)) (whole_back f xs rows at n same there)

    number : number_in t.numbers at ≡ n.number
    number = ap (λ o. unwrap_or o 0) (whole_back (λ n. n.number) t.numbers rows at n is.numbers there)

pub rows_back : (t : Table Cells) (rows : List Numbered) → IsTableOf t rows → AreHeld rows → rows_of_table t ≡ rows
unfolding rows_of_table
rows_back t rows is held =
    ap (λ n. map (row_at t) (range_with_len 0 n)) count
    ∙ sym (fill_by_all (row_at t) rows (length rows) (row_at t 0) refl (λ at inside. sym (row_back t rows at (get_or rows at (row_at t 0)) is (All-get_or (λ n. AreShort n.row.stack) rows at (row_at t 0) inside held.frames) (slice_get-get_or rows at (row_at t 0) inside))))
  where
    count : length t.numbers ≡ length rows
    count = ap length is.numbers ∙ length-map rows (λ n. n.number)

pub nothing_held : AreHeld []
nothing_held = record { numbers = All-nil IsNumber; frames = All-nil (λ n. AreShort n.row.stack); texts = All-nil (λ n. HasTexts n.row) }

pub held_more : (rows : List Numbered) (n : Numbered) → AreHeld rows → n.number < 2 ^ 63 → AreShort n.row.stack → HasTexts n.row → AreHeld (rows ++ n ∷ [])
held_more rows n held number short texts = record {
  numbers = All-push IsNumber rows n held.numbers number;
  frames = All-push (λ n. AreShort n.row.stack) rows n held.frames short;
  texts = All-push (λ n. HasTexts n.row) rows n held.texts texts;
}

-- a table of rows that can be held
pub growing_from : (t : Table Cells) (rows : List Numbered) → IsTableOf t rows → AreHeld rows → IsGrowing t
growing_from t rows is held =
    let back = sym (rows_back t rows is held) in
    record { table = subst (IsTableOf t) back is; held = subst AreHeld back held }

pub row_there : (t : Table Cells) (at : ℕ) → at < length (rows_of_table t) → slice_get (rows_of_table t) at ≡ Some (row_at t at)
unfolding rows_of_table
row_there t at inside =
    let below : at < length t.numbers = subst (λ n. at < n) (length-map-range_with_len (row_at t) 0 (length t.numbers)) inside in
    slice_get-get_or (rows_of_table t) at (row_at t at) inside ∙ ap Some (get_or-map-range_with_len (row_at t) 0 (length t.numbers) at at (row_at t at) below (omega arith))
