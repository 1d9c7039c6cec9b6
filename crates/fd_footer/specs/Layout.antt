-- The columns of this project's files.
use Rattle.std.specs.Prelude.{ℕ, Bool, true, false, not, ◌&&◌, ◌||◌, List, [], ◌∷◌, codes, nat_eq}
use Rattle.std.specs.Borrow.{Bor}
use Rattle.std.specs.List.{starts_with}
use Rattle.std.specs.Str.{bytes_eq}
use Rattle.std.specs.Ordering.{is_lt, nat_cmp}
use Rattle.std.specs.Cmp.Lexicographic.{slice_cmp}
use Rattle.fd_footer.specs.declared.footer.ColumnType.{ColumnType}
use Rattle.fd_footer.specs.declared.footer.ColumnType.TheVariants.{Int64, ByteArray}
use Rattle.fd_footer.specs.declared.footer.Column.{Column}

abbrev pub is_bytes : ColumnType → Bool
is_bytes Int64 = false
is_bytes ByteArray = true

abbrev pub same_type : ColumnType → ColumnType → Bool
same_type Int64 Int64 = true
same_type ByteArray ByteArray = true
same_type one other = false

-- a column that each file has
abbrev pub is_fixed : List ℕ → ColumnType → Column → Bool
is_fixed name column_type c = bytes_eq c.name name && same_type c.column_type column_type && c.required

-- a column of labels: texts that may be absent
abbrev pub is_label : Column → Bool
is_label c = is_bytes c.column_type && not c.required && (starts_with nat_eq c.name (codes "labels.") || starts_with nat_eq c.name (codes "pprof_labels."))

abbrev pub is_label_above : List ℕ → Column → Bool
is_label_above last c = is_label c && is_lt (slice_cmp nat_cmp last c.name)

-- Columns of labels whose names strictly rise by bytes, from above `last` on. So those of `labels.` stand before those of
-- `pprof_labels.`
abbrev pub are_labels_above : List ℕ → List Column → Bool
are_labels_above last [] = true
are_labels_above last (c ∷ cs) = is_label_above last c && are_labels_above c.name cs

-- the names and types of the columns that each file has
abbrev pub fixed : List (List ℕ × ColumnType)
fixed =
    (codes "_tx", Int64)
    ∷ (codes "name", ByteArray)
    ∷ (codes "sample_type", ByteArray)
    ∷ (codes "sample_unit", ByteArray)
    ∷ (codes "period_type", ByteArray)
    ∷ (codes "period_unit", ByteArray)
    ∷ (codes "timestamp", Int64)
    ∷ (codes "stack", ByteArray)
    ∷ (codes "period", Int64)
    ∷ (codes "duration", Int64)
    ∷ (codes "value", Int64)
    ∷ []

-- these columns, and then columns of labels
abbrev pub are_own_by : List (List ℕ × ColumnType) → List Column → Bool
are_own_by [] cs = are_labels_above [] cs
are_own_by (f ∷ fs) [] = false
are_own_by (f ∷ fs) (c ∷ cs) = is_fixed f.0 f.1 c && are_own_by fs cs

unfoldable pub are_own : List Column → Bool
are_own cs = are_own_by fixed cs

-- a name behind a reference, with its type
abbrev pub fixed_view : Bor (List ℕ) × ColumnType → List ℕ × ColumnType
fixed_view f = (f.0.now, f.1)
