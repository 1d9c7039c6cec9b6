-- The bytes of a row in the log. Whole numbers are little-endian, and negative ones in two's complement.
use Rattle.std.specs.Prelude.{ℕ, ℤ, ◌++◌, List, length, flat_map}
use Rattle.std.specs.Int.{w32, w64, to_le_bytes, cast_unsigned}
use Rattle.fd_kinds.specs.declared.pair.Pair.{Pair}
use Rattle.fd_kinds.specs.declared.row.Row.{Row}

-- a length or a count
abbrev pub count_bytes : ℕ → List ℕ
count_bytes n = to_le_bytes w32 n

abbrev pub text_spelling : List ℕ → List ℕ
text_spelling text = count_bytes (length text) ++ text

abbrev pub pair_spelling : Pair → List ℕ
pair_spelling p = text_spelling p.name ++ text_spelling p.value

abbrev pub labels_spelling : List Pair → List ℕ
labels_spelling pairs = count_bytes (length pairs) ++ flat_map pair_spelling pairs

abbrev pub stack_spelling : List (List ℕ) → List ℕ
stack_spelling frames = count_bytes (length frames) ++ flat_map text_spelling frames

abbrev pub whole_spelling : ℤ → List ℕ
whole_spelling n = to_le_bytes w64 (cast_unsigned w64 n)

-- the fields in the order in which rows are compared
abbrev pub row_spelling : Row → List ℕ
row_spelling r =
    text_spelling r.name
    ++ (text_spelling r.sample_type
    ++ (text_spelling r.sample_unit
    ++ (text_spelling r.period_type
    ++ (text_spelling r.period_unit
    ++ (labels_spelling r.labels.pairs
    ++ (whole_spelling r.timestamp
    ++ (stack_spelling r.stack
    ++ (labels_spelling r.pprof_labels.pairs
    ++ (whole_spelling r.period
    ++ (whole_spelling r.duration
    ++ whole_spelling r.value))))))))))
