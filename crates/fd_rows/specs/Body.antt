-- The rows of a write body, and its first refusal.
pub use Rattle.fd_rows.specs.Rows.{body_rows}
use Rattle.std.specs.Prelude.{ℕ, ◌+◌, Bool, List, [], ◌∷◌, ◌++◌, Option, Some, None, length, nat_lt, sum_by, if◌then◌else◌}
use Rattle.std.specs.Option.{option_or, option_map}
use Rattle.fd_kinds.specs.declared.pair.Pair.{Pair}
use Rattle.fd_kinds.specs.declared.row.Row.{Row}
use Rattle.fd_kinds.specs.declared.body.RawSeries.{RawSeries}
use Rattle.fd_kinds.specs.declared.body.RawBody.{RawBody}
use Rattle.fd_kinds.specs.Labels.{is_empty}
use Rattle.fd_kinds.specs.RowSize.{row_size}
use Rattle.fd_pprof.specs.Profile.{profile_refusal}
use Rattle.fd_rows.specs.declared.series.Series.{Series}
use Rattle.fd_rows.specs.declared.faults.BatchFault.{BatchFault}
use Rattle.fd_rows.specs.declared.faults.BatchFault.TheVariants as fault
use Rattle.fd_rows.specs.declared.limits.TheConstants.{MOST_BODY_ROW_BYTES}
use Rattle.fd_rows.specs.Labels.{label_refusal, series_name}
use Rattle.fd_rows.specs.Rows.{series_of, message_rows, series_rows}

-- the rows have more bytes than those of a body may have
unfoldable pub is_large : List Row → Bool
is_large rows = nat_lt MOST_BODY_ROW_BYTES (sum_by row_size rows)

-- the refusal of the first label that has one, behind the labels `earlier`
abbrev pub labels_refusal : ℕ → List Pair → List Pair → Option BatchFault
labels_refusal series earlier [] = None
labels_refusal series earlier (p ∷ ps) =
    option_or (option_map (fault.Label series (length earlier)) (label_refusal earlier p)) (labels_refusal series (earlier ++ p ∷ []) ps)

abbrev pub name_refusal : ℕ → List Pair → Option BatchFault
name_refusal series labels = if is_empty (series_name labels) then Some (fault.NoName series) else None

-- the refusal of a profile at the place `at` of its series, behind the rows `before`
abbrev pub message_refusal : ℕ → Series → ℕ → List Row → List ℕ → Option BatchFault
message_refusal series of at before bytes =
    option_or (option_map (fault.Profile series at) (profile_refusal bytes)) (if is_large (before ++ message_rows of bytes) then Some (fault.Large series at) else None)

-- the refusal of the first profile that has one; the first of these stands at the place `at`, behind the rows `before`
abbrev pub messages_refusal : ℕ → Series → ℕ → List Row → List (List ℕ) → Option BatchFault
messages_refusal series of at before [] = None
messages_refusal series of at before (bytes ∷ more) =
    option_or (message_refusal series of at before bytes) (messages_refusal series of (at + 1) (before ++ message_rows of bytes) more)

-- the first refusal of a series at the place `series`, behind the rows `before`: its labels, its name, its profiles
unfoldable pub series_refusal : ℕ → List Row → RawSeries → Option BatchFault
series_refusal series before s =
    option_or (labels_refusal series [] s.labels) (option_or (name_refusal series s.labels) (messages_refusal series (series_of s.labels) 0 before s.profiles))

-- the refusal of the first series that has one; the first of these stands at the place `series`, behind the rows `before`
abbrev pub all_refusal : ℕ → List Row → List RawSeries → Option BatchFault
all_refusal series before [] = None
all_refusal series before (s ∷ more) = option_or (series_refusal series before s) (all_refusal (series + 1) (before ++ series_rows s) more)

-- the first refusal of a write body, its series in order
unfoldable pub body_refusal : RawBody → Option BatchFault
body_refusal body = all_refusal 0 [] body.series
