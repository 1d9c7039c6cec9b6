-- The texts of rows are UTF-8.
use Rattle.std.specs.Prelude.{List, All, IsUtf8}
use Rattle.fd_kinds.specs.declared.pair.Pair.{Pair}
use Rattle.fd_kinds.specs.declared.row.Numbered.{Numbered}
use Rattle.fd_kinds.specs.declared.row.Row.{Row}

pub record IsTextPair (pair : Pair) : Type 0 where
  pub name : IsUtf8 pair.name
  pub value : IsUtf8 pair.value

-- the texts of a row, its labels and its frames
pub record HasTexts (row : Row) : Type 0 where
  pub name : IsUtf8 row.name
  pub sample_type : IsUtf8 row.sample_type
  pub sample_unit : IsUtf8 row.sample_unit
  pub period_type : IsUtf8 row.period_type
  pub period_unit : IsUtf8 row.period_unit
  pub labels : All IsTextPair row.labels.pairs
  pub stack : All IsUtf8 row.stack
  pub pprof_labels : All IsTextPair row.pprof_labels.pairs

abbrev pub AreTexts : List Numbered → Type 0
AreTexts rows = All (λ n. HasTexts n.row) rows
