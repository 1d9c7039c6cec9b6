-- The rows of a profile, of a series and of a write body.
use Rattle.std.specs.Prelude.{ℕ, ℤ, pos, not, List, [], ◌∷◌, if◌then◌else◌, filter}
use Rattle.std.specs.List.{flat_map, zip}
use Rattle.std.specs.Int.{int_div_euclid}
use Rattle.std.specs.Ordering.{int_eq}
use Rattle.fd_kinds.specs.declared.pair.Pair.{Pair}
use Rattle.fd_kinds.specs.declared.row.Row.{Row}
use Rattle.fd_kinds.specs.declared.body.RawSeries.{RawSeries}
use Rattle.fd_kinds.specs.declared.body.RawBody.{RawBody}
use Rattle.fd_kinds.specs.LabelsOf.{labels_of}
use Rattle.fd_pprof.specs.declared.profile.Profile.{Profile}
use Rattle.fd_pprof.specs.declared.profile.Sample.{Sample}
use Rattle.fd_pprof.specs.declared.profile.ValueType.{ValueType}
use Rattle.fd_pprof.specs.Profile.{profile_of}
use Rattle.fd_rows.specs.declared.series.Series.{Series}
use Rattle.fd_rows.specs.Labels.{is_name, series_name}

-- the name of a series, and its other labels
unfoldable pub series_of : List Pair → Series
series_of pairs = record { name = series_name pairs; labels = labels_of (filter (λ p. not (is_name p)) pairs) }

-- milliseconds of nanoseconds, rounded down
abbrev pub milliseconds : ℤ → ℤ
milliseconds nanoseconds = int_div_euclid nanoseconds (pos 1000000)

abbrev pub row_of : Series → Profile → Sample → ValueType → ℤ → Row
row_of series profile sample kind value = record {
  name = series.name;
  sample_type = kind.kind;
  sample_unit = kind.unit;
  period_type = profile.period_type.kind;
  period_unit = profile.period_type.unit;
  labels = series.labels;
  timestamp = milliseconds profile.time_nanos;
  stack = sample.stack;
  pprof_labels = sample.labels;
  period = profile.period;
  duration = profile.duration_nanos;
  value = value;
}

-- one row for a value, and none for 0
unfoldable pub value_rows : Series → Profile → Sample → ValueType × ℤ → List Row
value_rows series profile sample (kind, value) = if int_eq value (pos 0) then [] else row_of series profile sample kind value ∷ []

-- the rows of a sample, one sample type after another
unfoldable pub sample_rows : Series → Profile → Sample → List Row
sample_rows series profile sample = flat_map (value_rows series profile sample) (zip profile.sample_types sample.values)

unfoldable pub profile_rows : Series → Profile → List Row
profile_rows series profile = flat_map (sample_rows series profile) profile.samples

-- the rows of the profile that the bytes spell
unfoldable pub message_rows : Series → List ℕ → List Row
message_rows series bytes = profile_rows series (profile_of bytes)

unfoldable pub series_rows : RawSeries → List Row
series_rows s = flat_map (message_rows (series_of s.labels)) s.profiles

-- the rows of all series, profiles, samples and sample types, in this order
unfoldable pub body_rows : RawBody → List Row
body_rows body = flat_map series_rows body.series
