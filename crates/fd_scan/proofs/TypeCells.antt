-- The profile type of the row at a place, by its cells.
use Rattle.std.proofs.Common.{◌≡◌, ℕ, pos, not, ◌&&◌, List, ◌∙◌, bytes_eq}
use Rattle.std.specs.Ordering.{int_eq}
use Rattle.fd_kinds.specs.declared.row.Numbered.{Numbered}
use Rattle.fd_kinds.specs.declared.query.ProfileType.{ProfileType}
use Rattle.fd_kinds.specs.Meaning.{type_of}
use Rattle.fd_column.specs.Cells.{column_texts}
use Rattle.fd_scan.specs.RowPlaces.{row_at, text_of, has_text, has_texts}
use Rattle.fd_scan.proofs.CellValues.{name_read, sample_type_read, sample_unit_read, period_type_read, period_unit_read}

pub type_made : (rows : List Numbered) (at : ℕ) (kind : ProfileType)
    → kind.name ≡ text_of (column_texts rows 1) at
    → kind.sample_type ≡ text_of (column_texts rows 2) at
    → kind.sample_unit ≡ text_of (column_texts rows 3) at
    → kind.period_type ≡ text_of (column_texts rows 4) at
    → kind.period_unit ≡ text_of (column_texts rows 5) at
    → kind.delta ≡ not (int_eq (row_at rows at).duration (pos 0))
    → kind ≡ type_of (row_at rows at)
type_made rows at kind n s u p q d = λ i.
    record {
      name = (n ∙ name_read rows at) i;
      sample_type = (s ∙ sample_type_read rows at) i;
      sample_unit = (u ∙ sample_unit_read rows at) i;
      period_type = (p ∙ period_type_read rows at) i;
      period_unit = (q ∙ period_unit_read rows at) i;
      delta = d i;
    }

pub texts_compared : (rows : List Numbered) (at : ℕ) (kind : ProfileType)
    → ((((has_text (column_texts rows 1) kind.name at && has_text (column_texts rows 2) kind.sample_type at) && has_text (column_texts rows 3) kind.sample_unit at) && has_text (column_texts rows 4) kind.period_type at) && has_text (column_texts rows 5) kind.period_unit at)
    ≡ has_texts kind (row_at rows at)
texts_compared rows at kind = λ i. (((bytes_eq (name_read rows at i) kind.name && bytes_eq (sample_type_read rows at i) kind.sample_type) && bytes_eq (sample_unit_read rows at i) kind.sample_unit) && bytes_eq (period_type_read rows at i) kind.period_type) && bytes_eq (period_unit_read rows at i) kind.period_unit
