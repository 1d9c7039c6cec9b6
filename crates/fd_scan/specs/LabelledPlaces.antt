-- A row's place with the labels of its series.
use Rattle.std.specs.Prelude.{◌≡◌, ◌<◌, List, length}
use Rattle.fd_kinds.specs.declared.row.Numbered.{Numbered}
use Rattle.fd_scan.specs.declared.ranges.LabelledPlace.{LabelledPlace}
use Rattle.fd_scan.specs.RowPlaces.{row_at}

pub record IsLabelled (rows : List Numbered) (place : LabelledPlace) : Type 0 where
  pub inside : place.at < length rows
  pub labels : place.labels ≡ (row_at rows place.at).labels
