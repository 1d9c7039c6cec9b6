use Rattle.std.proofs.Common.{◌≡◌, ℕ, List, Err, sym, ap, ◌∙◌, subst}
use Rattle.std.specs.Prelude.{IfErr}
use Rattle.std.proofs.lemmas.Result.{err_from_is_err_and}
use Rattle.fd_kinds.specs.declared.row.Numbered.{Numbered}
use Rattle.fd_footer.specs.declared.footer.Pages.TheVariants.{Plain}
use Rattle.fd_parquet.specs.declared.reader.FileTable.{FileTable}
use Rattle.fd_parquet.specs.declared.fault.FileFault.TheVariants.{NoMemory}
use Rattle.fd_parquet.specs.Refusals.{Refuses, IsRefused, Finds}
use Rattle.fd_parquet.specs.Stages.{IsPartsFault}
use Rattle.fd_parquet.proofs.FileReads.{file_parts, footer_refuses, footer_only, parts_refuse, parts_only}
use Rattle.fd_parquet.proofs.FileAnswers.{own_tells, told_gives, refused_whole}
use Rattle.fd_parquet.proofs.reader.read_file.Goals as goal

pub returns-in_err-told-clause-only : goal.returns-in_err-told-clause-only
returns-in_err-told-clause-only c =
    let p = err_from_is_err_and c.from_residual-in_err-told.result c.from_residual-in_err-told.ensures.1 in
    let fault : c.from_residual-in_err-told.result ≡ Err c.in_err-told.field-0.0 = p.1 ∙ ap Err p.2 in
    λ rows lo hi is.
    let parts = file_parts Plain c.args.bytes.now c.in_ok-body.body.now c.in_ok-body.footer.now rows lo hi (λ b f h. c.in_ok-body.ensures.only b f h) is in
    let (v, spelled, shape, table) = own_tells c.footers_are_read.ensures.shape c.footers_are_read.ensures.table c.footers_are_spelled.ensures Plain c.in_ok-body.body.now c.in_ok-body.footer.now rows lo hi parts c.in_ok-body.ensures.found.short in
    subst (λ r. Finds {X = FileTable} {Y = List Numbered × ℕ × ℕ} (λ file. (file.table, file.lo, file.hi)) r (rows, lo, hi)) (sym fault)
    (told_gives {X = FileTable} {Y = List Numbered × ℕ × ℕ} (λ file. (file.table, file.lo, file.hi)) v _ c.in_err-told.field-0.0 (rows, lo, hi) shape table (c.in_err-told.ensures.only v spelled))

pub returns-in_err-told-clause-refused : goal.returns-in_err-told-clause-refused
returns-in_err-told-clause-refused c =
    let p = err_from_is_err_and c.from_residual-in_err-told.result c.from_residual-in_err-told.ensures.1 in
    let fault : c.from_residual-in_err-told.result ≡ Err c.in_err-told.field-0.0 = p.1 ∙ ap Err p.2 in
    subst (λ r. IfErr r (λ e. (e ≡ NoMemory → ⊥) → Refuses c.args.bytes.now e)) (sym fault)
    (λ some. footer_refuses c.args.bytes.now c.in_ok-body.body.now c.in_ok-body.footer.now c.in_ok-body.ensures.found (λ b f h. c.in_ok-body.ensures.only b f h) c.in_err-told.field-0.0 some c.in_err-told.ensures.refused)

pub returns-in_err-told-clause-refused_only : goal.returns-in_err-told-clause-refused_only
returns-in_err-told-clause-refused_only c =
    let p = err_from_is_err_and c.from_residual-in_err-told.result c.from_residual-in_err-told.ensures.1 in
    let fault : c.from_residual-in_err-told.result ≡ Err c.in_err-told.field-0.0 = p.1 ∙ ap Err p.2 in
    λ other r. subst (λ x. IsRefused {A = FileTable} other x) (sym fault)
    (footer_only c.args.bytes.now c.in_ok-body.body.now c.in_ok-body.footer.now c.in_ok-body.ensures.found (λ b f h. c.in_ok-body.ensures.only b f h) FileTable c.in_err-told.field-0.0 other c.in_err-told.ensures.refused c.in_err-told.ensures.only r)

pub returns-clause-refused : goal.returns-clause-refused
returns-clause-refused c =
    let tells = c.in_ok-told.ensures.told in
    refused_whole c.file_of.result (IsPartsFault c.in_ok-body.body.now c.in_ok-body.footer.now c.in_ok-told.told) (Refuses c.args.bytes.now)
    (λ fault some f. parts_refuse c.args.bytes.now c.in_ok-body.body.now c.in_ok-body.footer.now c.in_ok-body.ensures.found (λ b f h. c.in_ok-body.ensures.only b f h) c.in_ok-told.told tells.0 fault tells.1 some f) c.file_of.ensures.refused

pub returns-clause-refused_only : goal.returns-clause-refused_only
returns-clause-refused_only c =
    let tells = c.in_ok-told.ensures.told in
    λ other r. parts_only c.args.bytes.now c.in_ok-body.body.now c.in_ok-body.footer.now c.in_ok-body.ensures.found (λ b f h. c.in_ok-body.ensures.only b f h) FileTable c.in_ok-told.told tells.0 other c.file_of.result tells.1 c.in_ok-told.ensures.only c.file_of.ensures.refused_only r
