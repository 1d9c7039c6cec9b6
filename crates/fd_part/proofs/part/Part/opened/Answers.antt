use Rattle.std.proofs.Common.{ℕ, List, sym, ap, subst, ◌∙◌}
use Rattle.fd_kinds.specs.declared.row.Numbered.{Numbered}
use Rattle.fd_parquet.specs.declared.reader.FileTable.{FileTable}
use Rattle.fd_footer.specs.declared.footer.Pages.TheVariants.{Plain}
use Rattle.fd_table_file.specs.Files.{IsFileOf}
use Rattle.fd_parquet.specs.Refusals.{Refuses}
use Rattle.fd_part.specs.declared.part.Part.{Part}
use Rattle.fd_part.specs.Parts.{part_meaning}
use Rattle.fd_part.specs.Ranges.{sealed_part}
use Rattle.fd_part.proofs.FaultLaws.{gives_fault, refused_fault}
use Rattle.fd_part.proofs.part.Part.opened.Goals as goal

pub returns-in-Err-clause-only : goal.returns-in-Err-clause-only
returns-in-Err-clause-only c = λ rows lo hi is.
    gives_fault (λ (read : FileTable). (read.table, read.lo, read.hi)) part_meaning c.in-Err.fault (rows, lo, hi) (sealed_part lo hi rows)
    (c.in-Err.ensures.only rows lo hi (subst (λ bytes. IsFileOf Plain bytes rows lo hi) (sym c.as_slice.ensures) is))

pub returns-in-Err-clause-refused : goal.returns-in-Err-clause-refused
returns-in-Err-clause-refused c = λ other.
    subst (λ bytes. Refuses bytes c.in-Err.fault) c.as_slice.ensures (c.in-Err.ensures.refused other)

pub returns-in-Err-clause-refused_only : goal.returns-in-Err-clause-refused_only
returns-in-Err-clause-refused_only c = λ fault refuses.
    refused_fault FileTable Part fault c.in-Err.fault
    (c.in-Err.ensures.refused_only fault (subst (λ bytes. Refuses bytes fault) (sym c.as_slice.ensures) refuses))

pub returns-clause-only : goal.returns-clause-only
returns-clause-only c = λ rows lo hi is.
    c.in_ok-range.ensures
    ∙ ap (λ (read : List Numbered × ℕ × ℕ). sealed_part read.1 read.2 read.0)
    (c.in-Ok.ensures.only rows lo hi (subst (λ bytes. IsFileOf Plain bytes rows lo hi) (sym c.as_slice.ensures) is))

pub returns-clause-refused_only : goal.returns-clause-refused_only
returns-clause-refused_only c = λ fault refuses.
    cc (c.in-Ok.ensures.refused_only fault (subst (λ bytes. Refuses bytes fault) (sym c.as_slice.ensures) refuses))
