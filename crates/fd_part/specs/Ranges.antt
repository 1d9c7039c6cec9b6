-- Numbered rows of a range.
use Rattle.std.specs.Prelude.{◌≡◌, ℕ, true, List}
use Rattle.fd_kinds.specs.declared.row.Numbered.{Numbered}
use Rattle.fd_kinds.specs.Parts.{PartMeaning, held_bytes}
use Rattle.fd_footer.specs.declared.footer.Pages.TheVariants.{Plain}
use Rattle.fd_table_file.specs.Files.{IsFileOf}

-- numbered rows, and the range in which their numbers lie
pub record RowRange : Type 0 where
  pub lo : ℕ
  pub hi : ℕ
  pub rows : List Numbered

-- these bytes are the file of the rows, whose bytes in the log are counted
pub record IsFiled (file : List ℕ) (rows : List Numbered) (lo hi bytes : ℕ) : Type 0 where
  pub filed : IsFileOf Plain file rows lo hi
  pub counted : bytes ≡ held_bytes rows

-- the part of these rows and this range, which is sealed
abbrev pub sealed_part : ℕ → ℕ → List Numbered → PartMeaning
sealed_part lo hi rows = record { lo = lo; hi = hi; sealed = true; rows = rows }

abbrev pub meaning_of : RowRange → PartMeaning
meaning_of range = sealed_part range.lo range.hi range.rows

-- the bytes are the file of a sealed part
abbrev pub IsFileOfPart : List ℕ → PartMeaning → Type 0
IsFileOfPart file part = IsFileOf Plain file part.rows part.lo part.hi
