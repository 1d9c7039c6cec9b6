-- Rows of a range are a part.
use Rattle.std.specs.Prelude.{ℕ, ◌≤◌, List, All}
use Rattle.fd_kinds.specs.declared.row.Numbered.{Numbered}
use Rattle.fd_kinds.specs.Parts.{IsPart, IsWithin}
use Rattle.fd_footer.specs.declared.footer.Pages.{Pages}
use Rattle.fd_table_file.specs.Files.{IsFileOf}
use Rattle.fd_part.specs.Ranges.{sealed_part}

pub sealed_part_is_part : (lo hi : ℕ) (rows : List Numbered) → lo ≤ hi → All (IsWithin lo hi) rows → IsPart (sealed_part lo hi rows)
sealed_part_is_part lo hi rows ordered within = record { ordered = ordered; within = within; one_number = λ h. cc }

-- the rows of a file lie in its range
pub file_is_part : (pages : Pages) (file : List ℕ) (rows : List Numbered) (lo hi : ℕ) → IsFileOf pages file rows lo hi → IsPart (sealed_part lo hi rows)
file_is_part pages file rows lo hi is = sealed_part_is_part lo hi rows is.range is.within
