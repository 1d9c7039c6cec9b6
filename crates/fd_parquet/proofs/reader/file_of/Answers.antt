use Rattle.std.proofs.Common.{◌≡◌, ◌<◌, ◌^◌, ℕ, pos, List, [], map, Ok, sym, subst}
use Rattle.std.specs.Prelude.{IfSome}
use Rattle.std.specs.Borrow.{Bor}
use Rattle.fd_kinds.specs.declared.row.Numbered.{Numbered}
use Rattle.fd_column.specs.Cells.{columns_of}
use Rattle.fd_pages.specs.declared.cell.Cell.{Cell}
use Rattle.fd_footer.specs.declared.footer.Pages.TheVariants.{Plain}
use Rattle.fd_footer.specs.declared.footer.Chunk.{Chunk}
use Rattle.fd_parquet.specs.declared.reader.FileTable.{FileTable}
use Rattle.fd_parquet.specs.declared.columns.ColumnCells.{ColumnCells as AnyColumns}
use Rattle.fd_table_file.specs.Columns.{cells_of}
use Rattle.fd_table_file.specs.Files.{places_from}
use Rattle.fd_parquet.specs.Refusals.{BeginsColumns, FailsAt}
use Rattle.fd_parquet.specs.Stages.{HasTable, RefusesParts, AreParts}
use Rattle.fd_parquet.proofs.FileReads.{told_is, count_is, begins, negative_none, err_gives, columns_refused_only, last_refused, found_only, plain_table, no_parts}
use Rattle.fd_parquet.proofs.TableLaws.{TellsItsRows}
use Rattle.fd_parquet.proofs.FileAnswers.{never_fails, rest_is, some_left, none_left, read_table, some_table, no_table}
use Rattle.fd_parquet.proofs.reader.file_of.Goals as goal

pub returns-in_default-clause-only : goal.returns-in_default-clause-only
returns-in_default-clause-only c =
    let law : TellsItsRows c.args.footer.now c.args.told.now =
    λ pages rows lo hi places is names. c.footers_tell_their_rows.ensures c.args.footer.now c.requires.told.0 c.args.told.now pages rows lo hi places c.requires.told.1 is c.requires.short names in
    λ rows lo hi p. negative_none c.args.body.now c.args.footer.now c.args.told.now law rows lo hi (c.count_of.ensures.none c.in_default.is) p

pub returns-in-Err-clause-only : goal.returns-in-Err-clause-only
returns-in-Err-clause-only c =
    let law : TellsItsRows c.args.footer.now c.args.told.now =
    λ pages rows lo hi places is names. c.footers_tell_their_rows.ensures c.args.footer.now c.requires.told.0 c.args.told.now pages rows lo hi places c.requires.told.1 is c.requires.short names in
    let counted : c.args.told.now.rows ≡ pos c.in-Some.count =
    (subst (λ o. IfSome o (λ (n : ℕ). (c.args.told.now.rows ≡ pos n) × (n < 2 ^ 63))) c.in-Some.is c.count_of.ensures.found).0 in
    λ rows lo hi p.
    let y : (List (List Cell) × List Chunk) × List ℕ = ((map (λ d. cells_of d rows) (columns_of rows), places_from 4 p.chunks), []) in
    err_gives {X = AnyColumns × Bor (List ℕ)} {Y = (List (List Cell) × List Chunk) × List ℕ} {U = FileTable} {V = List Numbered × ℕ × ℕ} (λ r. ((r.0.cells, r.0.places), r.1.now)) (λ file. (file.table, file.lo, file.hi)) c.in-Err.fault y (rows, lo, hi)
    (c.in-Err.ensures.only (map (λ d. cells_of d rows) (columns_of rows)) (places_from 4 p.chunks) [] (subst (λ xs. BeginsColumns c.args.told.now.pages c.in-Some.count 4 xs c.args.body.now (map (λ d. cells_of d rows) (columns_of rows)) (places_from 4 p.chunks) []) (sym c.as_slice.ensures) (begins c.args.body.now c.args.footer.now c.args.told.now law c.in-Some.count rows lo hi counted p)))

pub returns-in-Err-clause-refused_only : goal.returns-in-Err-clause-refused_only
returns-in-Err-clause-refused_only c =
    let law : TellsItsRows c.args.footer.now c.args.told.now =
    λ pages rows lo hi places is names. c.footers_tell_their_rows.ensures c.args.footer.now c.requires.told.0 c.args.told.now pages rows lo hi places c.requires.told.1 is c.requires.short names in
    let counted : c.args.told.now.rows ≡ pos c.in-Some.count =
    (subst (λ o. IfSome o (λ (n : ℕ). (c.args.told.now.rows ≡ pos n) × (n < 2 ^ 63))) c.in-Some.is c.count_of.ensures.found).0 in
    λ k r. columns_refused_only c.args.body.now c.args.footer.now c.args.told.now law FileTable c.in-Some.count k c.in-Err.fault counted
    (λ k f. c.in-Err.ensures.fails_only k (subst (λ xs. FailsAt c.args.told.now.pages xs c.in-Some.count c.args.body.now k) (sym c.as_slice.ensures) f))
    (λ cells places rest b. c.in-Err.ensures.only cells places rest (subst (λ xs. BeginsColumns c.args.told.now.pages c.in-Some.count 4 xs c.args.body.now cells places rest) (sym c.as_slice.ensures) b)) r

pub returns-then-not-is_empty-clause-only : goal.returns-then-not-is_empty-clause-only
returns-then-not-is_empty-clause-only c =
    let law : TellsItsRows c.args.footer.now c.args.told.now =
    λ pages rows lo hi places is names. c.footers_tell_their_rows.ensures c.args.footer.now c.requires.told.0 c.args.told.now pages rows lo hi places c.requires.told.1 is c.requires.short names in
    let counted : c.args.told.now.rows ≡ pos c.in-Some.count =
    (subst (λ o. IfSome o (λ (n : ℕ). (c.args.told.now.rows ≡ pos n) × (n < 2 ^ 63))) c.in-Some.is c.count_of.ensures.found).0 in
    λ rows lo hi p.
    let same : ◌≡◌ {A = (List (List Cell) × List Chunk) × List ℕ} ((c.in-Ok.found.0.cells, c.in-Ok.found.0.places), c.in-Ok.found.1.now) ((map (λ d. cells_of d rows) (columns_of rows), places_from 4 p.chunks), []) =
    c.in-Ok.ensures.only (map (λ d. cells_of d rows) (columns_of rows)) (places_from 4 p.chunks) [] (subst (λ xs. BeginsColumns c.args.told.now.pages c.in-Some.count 4 xs c.args.body.now (map (λ d. cells_of d rows) (columns_of rows)) (places_from 4 p.chunks) []) (sym c.as_slice.ensures) (begins c.args.body.now c.args.footer.now c.args.told.now law c.in-Some.count rows lo hi counted p)) in
    some_left c.in-Ok.found.1.now c.is_empty.result c.is_empty.ensures c.if-not-is_empty.true (rest_is _ _ same)

pub returns-then-not-is_empty-clause-refused : goal.returns-then-not-is_empty-clause-refused
returns-then-not-is_empty-clause-refused c =
    let law : TellsItsRows c.args.footer.now c.args.told.now =
    λ pages rows lo hi places is names. c.footers_tell_their_rows.ensures c.args.footer.now c.requires.told.0 c.args.told.now pages rows lo hi places c.requires.told.1 is c.requires.short names in
    let counted : c.args.told.now.rows ≡ pos c.in-Some.count =
    (subst (λ o. IfSome o (λ (n : ℕ). (c.args.told.now.rows ≡ pos n) × (n < 2 ^ 63))) c.in-Some.is c.count_of.ensures.found).0 in
    let none : (rows : List Numbered) (lo hi : ℕ) → AreParts Plain c.args.body.now c.args.footer.now rows lo hi → ⊥ = λ rows lo hi p.
    let same : ◌≡◌ {A = (List (List Cell) × List Chunk) × List ℕ} ((c.in-Ok.found.0.cells, c.in-Ok.found.0.places), c.in-Ok.found.1.now) ((map (λ d. cells_of d rows) (columns_of rows), places_from 4 p.chunks), []) =
    c.in-Ok.ensures.only (map (λ d. cells_of d rows) (columns_of rows)) (places_from 4 p.chunks) [] (subst (λ xs. BeginsColumns c.args.told.now.pages c.in-Some.count 4 xs c.args.body.now (map (λ d. cells_of d rows) (columns_of rows)) (places_from 4 p.chunks) []) (sym c.as_slice.ensures) (begins c.args.body.now c.args.footer.now c.args.told.now law c.in-Some.count rows lo hi counted p)) in
    some_left c.in-Ok.found.1.now c.is_empty.result c.is_empty.ensures c.if-not-is_empty.true (rest_is _ _ same) in
    subst (λ k. RefusesParts c.args.body.now c.args.footer.now c.args.told.now c.args.told.now.rows k) (sym c.len.ensures) (last_refused c.args.body.now c.args.footer.now c.args.told.now law c.in-Some.count counted (c.in-Ok.found.0.cells, c.in-Ok.found.0.places, c.in-Ok.found.1.now, (subst (λ xs. BeginsColumns c.args.told.now.pages c.in-Some.count 4 xs c.args.body.now c.in-Ok.found.0.cells c.in-Ok.found.0.places c.in-Ok.found.1.now) c.as_slice.ensures c.in-Ok.ensures.found)) (no_parts c.args.body.now c.args.footer.now c.args.told.now law c.in-Some.count c.in-Ok.found.0.cells c.in-Ok.found.0.places c.in-Ok.found.1.now (subst (λ xs. BeginsColumns c.args.told.now.pages c.in-Some.count 4 xs c.args.body.now c.in-Ok.found.0.cells c.in-Ok.found.0.places c.in-Ok.found.1.now) c.as_slice.ensures c.in-Ok.ensures.found) none))

pub returns-in-Some-2-clause-found : goal.returns-in-Some-2-clause-found
returns-in-Some-2-clause-found c =
    plain_table c.args.told.now c.in-Some.count c.args.body.now c.args.footer.now c.in-Ok.found.0.cells c.in-Ok.found.0.places c.in-Ok.found.1.now c.in-Some-2.table.table c.in-Some-2.table.lo c.in-Some-2.table.hi
    (subst (λ o. IfSome o (λ (file : FileTable). HasTable c.args.told.now c.in-Ok.found.0.cells c.in-Ok.found.0.places c.args.footer.now file.table file.lo file.hi)) c.in-Some-2.is c.in_ok-table.ensures.found)
    (subst (λ xs. BeginsColumns c.args.told.now.pages c.in-Some.count 4 xs c.args.body.now c.in-Ok.found.0.cells c.in-Ok.found.0.places c.in-Ok.found.1.now) c.as_slice.ensures c.in-Ok.ensures.found) (none_left c.in-Ok.found.1.now c.is_empty.result c.is_empty.ensures c.if-not-is_empty.false)

pub returns-in-Some-2-clause-only : goal.returns-in-Some-2-clause-only
returns-in-Some-2-clause-only c =
    let law : TellsItsRows c.args.footer.now c.args.told.now =
    λ pages rows lo hi places is names. c.footers_tell_their_rows.ensures c.args.footer.now c.requires.told.0 c.args.told.now pages rows lo hi places c.requires.told.1 is c.requires.short names in
    let counted : c.args.told.now.rows ≡ pos c.in-Some.count =
    (subst (λ o. IfSome o (λ (n : ℕ). (c.args.told.now.rows ≡ pos n) × (n < 2 ^ 63))) c.in-Some.is c.count_of.ensures.found).0 in
    λ rows lo hi p.
    let same : ◌≡◌ {A = (List (List Cell) × List Chunk) × List ℕ} ((c.in-Ok.found.0.cells, c.in-Ok.found.0.places), c.in-Ok.found.1.now) ((map (λ d. cells_of d rows) (columns_of rows), places_from 4 p.chunks), []) =
    c.in-Ok.ensures.only (map (λ d. cells_of d rows) (columns_of rows)) (places_from 4 p.chunks) [] (subst (λ xs. BeginsColumns c.args.told.now.pages c.in-Some.count 4 xs c.args.body.now (map (λ d. cells_of d rows) (columns_of rows)) (places_from 4 p.chunks) []) (sym c.as_slice.ensures) (begins c.args.body.now c.args.footer.now c.args.told.now law c.in-Some.count rows lo hi counted p)) in
    some_table (λ (file : FileTable). (file.table, file.lo, file.hi)) c.in_ok-table.field-0 c.in-Some-2.table (rows, lo, hi)
    (c.in_ok-table.ensures.only rows lo hi
    (read_table c.args.body.now c.args.footer.now c.args.told.now rows lo hi c.in-Ok.found.0.cells c.in-Ok.found.0.places c.in-Ok.found.1.now (told_is c.args.body.now c.args.footer.now c.args.told.now law Plain rows lo hi p) p same)
    (count_is c.args.body.now c.args.footer.now c.args.told.now law c.in-Some.count rows lo hi counted p)) c.in-Some-2.is

pub returns-in-Some-2-clause-refused_only : goal.returns-in-Some-2-clause-refused_only
returns-in-Some-2-clause-refused_only c =
    let law : TellsItsRows c.args.footer.now c.args.told.now =
    λ pages rows lo hi places is names. c.footers_tell_their_rows.ensures c.args.footer.now c.requires.told.0 c.args.told.now pages rows lo hi places c.requires.told.1 is c.requires.short names in
    let counted : c.args.told.now.rows ≡ pos c.in-Some.count =
    (subst (λ o. IfSome o (λ (n : ℕ). (c.args.told.now.rows ≡ pos n) × (n < 2 ^ 63))) c.in-Some.is c.count_of.ensures.found).0 in
    λ k r. found_only c.args.body.now c.args.footer.now c.args.told.now law FileTable c.in-Some.count k (Ok c.in-Some-2.table) counted (λ k f. never_fails c.in-Ok.found k (c.in-Ok.ensures.fails_only k (subst (λ xs. FailsAt c.args.told.now.pages xs c.in-Some.count c.args.body.now k) (sym c.as_slice.ensures) f))) (
      Plain,
      c.in-Some-2.table.table,
      c.in-Some-2.table.lo,
      c.in-Some-2.table.hi,
      plain_table c.args.told.now c.in-Some.count c.args.body.now c.args.footer.now c.in-Ok.found.0.cells c.in-Ok.found.0.places c.in-Ok.found.1.now c.in-Some-2.table.table c.in-Some-2.table.lo c.in-Some-2.table.hi
          (subst (λ o. IfSome o (λ (file : FileTable). HasTable c.args.told.now c.in-Ok.found.0.cells c.in-Ok.found.0.places c.args.footer.now file.table file.lo file.hi)) c.in-Some-2.is c.in_ok-table.ensures.found)
          (subst (λ xs. BeginsColumns c.args.told.now.pages c.in-Some.count 4 xs c.args.body.now c.in-Ok.found.0.cells c.in-Ok.found.0.places c.in-Ok.found.1.now) c.as_slice.ensures c.in-Ok.ensures.found) (none_left c.in-Ok.found.1.now c.is_empty.result c.is_empty.ensures c.if-not-is_empty.false),
    ) r

pub returns-in-None-clause-only : goal.returns-in-None-clause-only
returns-in-None-clause-only c =
    let law : TellsItsRows c.args.footer.now c.args.told.now =
    λ pages rows lo hi places is names. c.footers_tell_their_rows.ensures c.args.footer.now c.requires.told.0 c.args.told.now pages rows lo hi places c.requires.told.1 is c.requires.short names in
    let counted : c.args.told.now.rows ≡ pos c.in-Some.count =
    (subst (λ o. IfSome o (λ (n : ℕ). (c.args.told.now.rows ≡ pos n) × (n < 2 ^ 63))) c.in-Some.is c.count_of.ensures.found).0 in
    λ rows lo hi p.
    let same : ◌≡◌ {A = (List (List Cell) × List Chunk) × List ℕ} ((c.in-Ok.found.0.cells, c.in-Ok.found.0.places), c.in-Ok.found.1.now) ((map (λ d. cells_of d rows) (columns_of rows), places_from 4 p.chunks), []) =
    c.in-Ok.ensures.only (map (λ d. cells_of d rows) (columns_of rows)) (places_from 4 p.chunks) [] (subst (λ xs. BeginsColumns c.args.told.now.pages c.in-Some.count 4 xs c.args.body.now (map (λ d. cells_of d rows) (columns_of rows)) (places_from 4 p.chunks) []) (sym c.as_slice.ensures) (begins c.args.body.now c.args.footer.now c.args.told.now law c.in-Some.count rows lo hi counted p)) in
    no_table (λ (file : FileTable). (file.table, file.lo, file.hi)) c.in_ok-table.field-0 (rows, lo, hi)
    (c.in_ok-table.ensures.only rows lo hi
    (read_table c.args.body.now c.args.footer.now c.args.told.now rows lo hi c.in-Ok.found.0.cells c.in-Ok.found.0.places c.in-Ok.found.1.now (told_is c.args.body.now c.args.footer.now c.args.told.now law Plain rows lo hi p) p same)
    (count_is c.args.body.now c.args.footer.now c.args.told.now law c.in-Some.count rows lo hi counted p)) c.in-None.is

pub returns-in-None-clause-refused : goal.returns-in-None-clause-refused
returns-in-None-clause-refused c =
    let law : TellsItsRows c.args.footer.now c.args.told.now =
    λ pages rows lo hi places is names. c.footers_tell_their_rows.ensures c.args.footer.now c.requires.told.0 c.args.told.now pages rows lo hi places c.requires.told.1 is c.requires.short names in
    let counted : c.args.told.now.rows ≡ pos c.in-Some.count =
    (subst (λ o. IfSome o (λ (n : ℕ). (c.args.told.now.rows ≡ pos n) × (n < 2 ^ 63))) c.in-Some.is c.count_of.ensures.found).0 in
    let none : (rows : List Numbered) (lo hi : ℕ) → AreParts Plain c.args.body.now c.args.footer.now rows lo hi → ⊥ = λ rows lo hi p.
    let same : ◌≡◌ {A = (List (List Cell) × List Chunk) × List ℕ} ((c.in-Ok.found.0.cells, c.in-Ok.found.0.places), c.in-Ok.found.1.now) ((map (λ d. cells_of d rows) (columns_of rows), places_from 4 p.chunks), []) =
    c.in-Ok.ensures.only (map (λ d. cells_of d rows) (columns_of rows)) (places_from 4 p.chunks) [] (subst (λ xs. BeginsColumns c.args.told.now.pages c.in-Some.count 4 xs c.args.body.now (map (λ d. cells_of d rows) (columns_of rows)) (places_from 4 p.chunks) []) (sym c.as_slice.ensures) (begins c.args.body.now c.args.footer.now c.args.told.now law c.in-Some.count rows lo hi counted p)) in
    no_table (λ (file : FileTable). (file.table, file.lo, file.hi)) c.in_ok-table.field-0 (rows, lo, hi)
    (c.in_ok-table.ensures.only rows lo hi
    (read_table c.args.body.now c.args.footer.now c.args.told.now rows lo hi c.in-Ok.found.0.cells c.in-Ok.found.0.places c.in-Ok.found.1.now (told_is c.args.body.now c.args.footer.now c.args.told.now law Plain rows lo hi p) p same)
    (count_is c.args.body.now c.args.footer.now c.args.told.now law c.in-Some.count rows lo hi counted p)) c.in-None.is in
    subst (λ k. RefusesParts c.args.body.now c.args.footer.now c.args.told.now c.args.told.now.rows k) (sym c.len.ensures) (last_refused c.args.body.now c.args.footer.now c.args.told.now law c.in-Some.count counted (c.in-Ok.found.0.cells, c.in-Ok.found.0.places, c.in-Ok.found.1.now, (subst (λ xs. BeginsColumns c.args.told.now.pages c.in-Some.count 4 xs c.args.body.now c.in-Ok.found.0.cells c.in-Ok.found.0.places c.in-Ok.found.1.now) c.as_slice.ensures c.in-Ok.ensures.found)) (no_parts c.args.body.now c.args.footer.now c.args.told.now law c.in-Some.count c.in-Ok.found.0.cells c.in-Ok.found.0.places c.in-Ok.found.1.now (subst (λ xs. BeginsColumns c.args.told.now.pages c.in-Some.count 4 xs c.args.body.now c.in-Ok.found.0.cells c.in-Ok.found.0.places c.in-Ok.found.1.now) c.as_slice.ensures c.in-Ok.ensures.found) none))
