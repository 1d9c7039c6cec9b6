-- The series of the row that was added last.
use Rattle.std.specs.Prelude.{ℕ, List, Option, option_map}
use Rattle.fd_kinds.specs.declared.row.Numbered.{Numbered}
use Rattle.fd_kinds.specs.declared.query.SeriesName.{SeriesName}
use Rattle.fd_kinds.specs.Meaning.{series_of}
use Rattle.fd_scan.specs.RowPlaces.{row_at}

-- the series of the row at the last place, where there is one
abbrev pub last_series : List Numbered → Option ℕ → Option SeriesName
last_series rows last = option_map (λ at. series_of (row_at rows at)) last
