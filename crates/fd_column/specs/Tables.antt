-- The columns of numbered rows, and the rows that columns are those of.
use Rattle.std.specs.Prelude.{◌≡◌, ℕ, ℤ, pos, List, [], ◌∷◌, ◌++◌, map, length, slice_get, Some, unwrap_or, All, IsSorted}
use Rattle.std.specs.List.{range_with_len}
use Rattle.fd_kinds.specs.declared.row.Numbered.{Numbered}
use Rattle.fd_kinds.specs.declared.row.Row.{Row}
use Rattle.fd_column.specs.declared.table.Kinds.{Kinds}
use Rattle.fd_column.specs.declared.table.Wholes.{Wholes}
use Rattle.fd_column.specs.declared.table.Table.{Table}
use Rattle.fd_dictionary.specs.Dictionaries.{Cells, cell_in}
use Rattle.fd_column.specs.Stacks.{stack_bytes, frames_of, AreShort}
use Rattle.fd_column.specs.Cells.{series_pairs, pprof_pairs, column_names}
use Rattle.fd_column.specs.LabelColumns.{label_columns, add_columns, with_value, pairs_at, labels_from}
use Rattle.fd_column.specs.RowNumbers.{numbered_cmp, IsNumber}
use Rattle.fd_column.specs.Texts.{AreTexts}

pub record AreKindsOf (k : Kinds Cells) (rows : List Numbered) : Type 0 where
  pub name : k.name ≡ map (λ n. Some n.row.name) rows
  pub sample_type : k.sample_type ≡ map (λ n. Some n.row.sample_type) rows
  pub sample_unit : k.sample_unit ≡ map (λ n. Some n.row.sample_unit) rows
  pub period_type : k.period_type ≡ map (λ n. Some n.row.period_type) rows
  pub period_unit : k.period_unit ≡ map (λ n. Some n.row.period_unit) rows

pub record AreWholesOf (w : Wholes) (rows : List Numbered) : Type 0 where
  pub timestamps : w.timestamps ≡ map (λ n. n.row.timestamp) rows
  pub periods : w.periods ≡ map (λ n. n.row.period) rows
  pub durations : w.durations ≡ map (λ n. n.row.duration) rows
  pub values : w.values ≡ map (λ n. n.row.value) rows

-- the columns are those of the rows
pub record IsTableOf (t : Table Cells) (rows : List Numbered) : Type 0 where
  pub numbers : t.numbers ≡ map (λ n. n.number) rows
  pub kinds : AreKindsOf t.kinds rows
  pub labels : t.labels ≡ label_columns (series_pairs rows)
  pub stacks : t.stacks ≡ map (λ n. Some (stack_bytes n.row.stack)) rows
  pub pprof_labels : t.pprof_labels ≡ label_columns (pprof_pairs rows)
  pub wholes : AreWholesOf t.wholes rows

abbrev pub text_at : Cells → ℕ → List ℕ
text_at cells at = unwrap_or (cell_in cells at) []

abbrev pub number_at : List ℤ → ℕ → ℤ
number_at numbers at = unwrap_or (slice_get numbers at) (pos 0)

abbrev pub number_in : List ℕ → ℕ → ℕ
number_in numbers at = unwrap_or (slice_get numbers at) 0

-- the row that the columns have at a place
abbrev pub row_at : Table Cells → ℕ → Numbered
row_at t at = record {
  number = number_in t.numbers at;
  row = record {
    name = text_at t.kinds.name at;
    sample_type = text_at t.kinds.sample_type at;
    sample_unit = text_at t.kinds.sample_unit at;
    period_type = text_at t.kinds.period_type at;
    period_unit = text_at t.kinds.period_unit at;
    labels = labels_from (pairs_at t.labels at);
    timestamp = number_at t.wholes.timestamps at;
    stack = frames_of (text_at t.stacks at);
    pprof_labels = labels_from (pairs_at t.pprof_labels at);
    period = number_at t.wholes.periods at;
    duration = number_at t.wholes.durations at;
    value = number_at t.wholes.values at;
  };
}

-- the columns and one more row
pub record KindsGrowBy (r : Row) (old new : Kinds Cells) : Type 0 where
  pub name : new.name ≡ old.name ++ Some r.name ∷ []
  pub sample_type : new.sample_type ≡ old.sample_type ++ Some r.sample_type ∷ []
  pub sample_unit : new.sample_unit ≡ old.sample_unit ++ Some r.sample_unit ∷ []
  pub period_type : new.period_type ≡ old.period_type ++ Some r.period_type ∷ []
  pub period_unit : new.period_unit ≡ old.period_unit ++ Some r.period_unit ∷ []

pub record WholesGrowBy (r : Row) (old new : Wholes) : Type 0 where
  pub timestamps : new.timestamps ≡ old.timestamps ++ r.timestamp ∷ []
  pub periods : new.periods ≡ old.periods ++ r.period ∷ []
  pub durations : new.durations ≡ old.durations ++ r.duration ∷ []
  pub values : new.values ≡ old.values ++ r.value ∷ []

pub record GrowsBy (n : Numbered) (old new : Table Cells) : Type 0 where
  pub numbers : new.numbers ≡ old.numbers ++ n.number ∷ []
  pub kinds : KindsGrowBy n.row old.kinds new.kinds
  pub labels : new.labels ≡ map (with_value n.row.labels.pairs) (add_columns (length old.numbers) old.labels n.row.labels.pairs)
  pub stacks : new.stacks ≡ old.stacks ++ Some (stack_bytes n.row.stack) ∷ []
  pub pprof_labels : new.pprof_labels ≡ map (with_value n.row.pprof_labels.pairs) (add_columns (length old.numbers) old.pprof_labels n.row.pprof_labels.pairs)
  pub wholes : WholesGrowBy n.row old.wholes new.wholes

-- the rows of the columns
unfoldable pub rows_of_table : Table Cells → List Numbered
rows_of_table t = map (row_at t) (range_with_len 0 (length t.numbers))

-- what each list of rows that columns hold has: numbers of 63 bits, frames whose lengths have four bytes, and texts in UTF-8
pub record AreHeld (rows : List Numbered) : Type 0 where
  pub numbers : All IsNumber rows
  pub frames : All (λ n. AreShort n.row.stack) rows
  pub texts : AreTexts rows

pub record IsGrowing (t : Table Cells) : Type 0 where
  pub table : IsTableOf t (rows_of_table t)
  pub held : AreHeld (rows_of_table t)

-- the columns and their concrete names are those of rows in order
pub record IsPart (shown : List (List ℕ)) (t : Table Cells) : Type 0 where
  pub names : shown ≡ column_names (rows_of_table t)
  pub table : IsTableOf t (rows_of_table t)
  pub held : AreHeld (rows_of_table t)
  pub sorted : IsSorted numbered_cmp (rows_of_table t)
