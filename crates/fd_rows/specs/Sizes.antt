-- The bytes of rows, told from their parts. A counter of 64 bits holds them, and the greatest number where they are more.
use Rattle.std.specs.Prelude.{ℕ, ◌+◌, ◌-◌, ◌^◌, min, List, length, sum_by}
use Rattle.fd_kinds.specs.declared.row.Row.{Row}
use Rattle.fd_kinds.specs.RowSize.{text_size, pair_size, labels_size, row_size}
use Rattle.fd_pprof.specs.declared.profile.Profile.{Profile}
use Rattle.fd_pprof.specs.declared.profile.Sample.{Sample}
use Rattle.fd_pprof.specs.declared.profile.ValueType.{ValueType}
use Rattle.fd_rows.specs.declared.series.Series.{Series}

-- a number as a counter of 64 bits holds it
abbrev pub held : ℕ → ℕ
held n = min n (2 ^ 64 - 1)

-- the bytes of a row of a series whose other texts, labels and frames are empty
abbrev pub series_size : Series → ℕ
series_size series = text_size series.name + 16 + labels_size series.labels.pairs + 4 + 4 + 32

abbrev pub type_length : ValueType → ℕ
type_length t = length t.kind + length t.unit

-- the bytes of a row of a sample, besides the texts of its sample type
abbrev pub sample_size : Series → Profile → Sample → ℕ
sample_size series profile s = series_size series + type_length profile.period_type + sum_by text_size s.stack + sum_by pair_size s.labels.pairs

-- the bytes of the rows before, and of these rows
abbrev pub with_rows : ℕ → List Row → ℕ
with_rows before rows = held (before + sum_by row_size rows)
