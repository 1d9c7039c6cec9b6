use Rattle.std.proofs.Common.{◌≡◌, ◌≤◌, ◌<◌, ◌^◌, ℕ, List, true, length, Some, sym, ap, ◌∙◌, subst, arith}
use Rattle.std.specs.Prelude.{IfOk, IfSome, All, IsSorted, option_map}
use Rattle.fd_kinds.specs.declared.row.Numbered.{Numbered}
use Rattle.fd_column.specs.RowNumbers.{numbered_cmp}
use Rattle.fd_footer.specs.Layout.{are_own}
use Rattle.fd_table_file.specs.Files.{IsWithin}
use Rattle.fd_parquet.specs.Stages.{HaveTexts, FitsTable, HasTable, AreRows}
use Rattle.fd_parquet.proofs.Injectivity.{some_is}
use Rattle.fd_parquet.proofs.FileReads.{have_texts, cells_told, places_count, places_fit, sizes_fit, same_range, rows_here}
use Rattle.fd_parquet.proofs.TableLaws.{TellsItsRows, has_table, fits_when, kept_found, kept_gives, table_fits}
use Rattle.fd_parquet.proofs.reader.table_of.Goals as goal

pub part_of-requires-clause-texts : goal.part_of-requires-clause-texts
part_of-requires-clause-texts c =
    subst (λ xs. HaveTexts c.as_slice-columns.result.now xs) (sym c.as_slice.ensures)
    (subst (λ xs. HaveTexts xs c.args.read.cells) (sym c.as_slice-columns.ensures)
    (have_texts c.cells_fit.ensures c.args.told.now c.args.count c.args.read.cells c.args.read.places c.requires.read))

pub part_of-requires-clause-own : goal.part_of-requires-clause-own
part_of-requires-clause-own c = subst (λ xs. are_own xs ≡ true) (sym c.as_slice-columns.ensures) c.requires.own

pub fits_table-fits-requires-clause-few : goal.fits_table-fits-requires-clause-few
fits_table-fits-requires-clause-few c =
    omega (arith, c.requires.few, cells_told c.args.told.now c.args.count c.args.read.cells c.args.read.places c.requires.read, ap length c.as_slice-2.ensures)

pub fits_table-fits-requires-clause-chunks : goal.fits_table-fits-requires-clause-chunks
fits_table-fits-requires-clause-chunks c =
    places_count c.chunks_are_placed.ensures.count c.args.told.now c.args.count c.args.read.cells c.args.read.places c.requires.read ∙ ap length (sym c.as_slice-2.ensures)

pub fits_table-fits-requires-clause-placed : goal.fits_table-fits-requires-clause-placed
fits_table-fits-requires-clause-placed c = places_fit c.chunks_are_placed.ensures.fit c.args.told.now c.args.count c.args.read.cells c.args.read.places c.requires.read

pub fits_table-fits-requires-clause-small : goal.fits_table-fits-requires-clause-small
fits_table-fits-requires-clause-small c = sizes_fit c.chunks_are_placed.ensures.sizes c.args.told.now c.args.count c.args.read.cells c.args.read.places c.requires.read

pub returns-clause-found : goal.returns-clause-found
returns-clause-found c =
    let range : (c.args.told.now.lo ≡ Some c.in-Some.lo) × (c.args.told.now.hi ≡ Some c.in-Some.hi) × (c.in-Some.lo ≤ c.in-Some.hi) × (c.in-Some.hi < 2 ^ 63) =
    subst (λ o. IfSome o (λ r. (c.args.told.now.lo ≡ Some r.0) × (c.args.told.now.hi ≡ Some r.1) × (r.0 ≤ r.1) × (r.1 < 2 ^ 63))) c.in-Some.is c.range_of.ensures.found in
    let within : All (IsWithin c.in-Some.lo c.in-Some.hi) c.in-Some-2.table =
    subst (λ o. IfSome o (All (IsWithin c.in-Some.lo c.in-Some.hi))) c.in-Some-2.is c.in_ok-table.ensures.within in
    let sorted : IsSorted numbered_cmp c.in-Some-2.table =
    subst (λ o. IfSome o (IsSorted numbered_cmp)) c.in-Some-2.is c.in_ok-table.ensures.sorted in
    let law : TellsItsRows c.args.footer.now c.args.told.now =
    λ pages rows lo hi places is names. c.footers_tell_their_rows.ensures c.args.footer.now c.requires.told.0 c.args.told.now pages rows lo hi places c.requires.told.1 is c.requires.short names in
    kept_found c.kept.result c.fits_table-fits.result c.in-Some-2.table c.in-Some.lo c.in-Some.hi (λ file. HasTable c.args.told.now c.args.read.cells c.args.read.places c.args.footer.now file.table file.lo file.hi)
    c.kept.ensures.found
    (λ fits f t l h.
    let has : HasTable c.args.told.now c.args.read.cells c.args.read.places c.args.footer.now c.in-Some-2.table c.in-Some.lo c.in-Some.hi =
    has_table c.args.footer.now c.args.told.now c.args.read.cells c.args.read.places c.in-Some-2.table c.in-Some.lo c.in-Some.hi law range within sorted
    (subst (λ xs. FitsTable c.args.told.now.pages c.args.footer.now xs c.args.read.places c.in-Some-2.table c.in-Some.lo c.in-Some.hi) c.as_slice-2.ensures
    (fits_when c.fits_table-fits.result _ c.fits_table-fits.ensures fits)) in
    subst (λ rows. HasTable c.args.told.now c.args.read.cells c.args.read.places c.args.footer.now rows f.lo f.hi) (sym t)
    (subst (λ n. HasTable c.args.told.now c.args.read.cells c.args.read.places c.args.footer.now c.in-Some-2.table n f.hi) (sym l)
    (subst (λ n. HasTable c.args.told.now c.args.read.cells c.args.read.places c.args.footer.now c.in-Some-2.table c.in-Some.lo n) (sym h) has)))

pub returns-clause-only : goal.returns-clause-only
returns-clause-only c = λ rows lo hi has counted.
    let same = same_range c.in-Some.lo c.in-Some.hi lo hi (sym c.in-Some.is ∙ c.range_of.ensures.only lo hi has.lowest has.highest has.range has.below) in
    let are : AreRows c.as_slice-columns.result.now c.as_slice.result.now c.in-Some.lo c.in-Some.hi rows =
    subst (λ xs. AreRows c.as_slice-columns.result.now xs c.in-Some.lo c.in-Some.hi rows) (sym c.as_slice.ensures)
    (subst (λ xs. AreRows xs c.args.read.cells c.in-Some.lo c.in-Some.hi rows) (sym c.as_slice-columns.ensures)
    (rows_here c.args.told.now.columns c.args.read.cells c.in-Some.lo c.in-Some.hi lo hi rows same.0 same.1 has.are)) in
    let built : Some c.in-Some-2.table ≡ Some rows = sym c.in-Some-2.is ∙ c.in_ok-table.ensures.only rows counted are in
    let table : c.in-Some-2.table ≡ rows = some_is c.in-Some-2.table rows built in
    let fits : FitsTable c.args.told.now.pages c.args.footer.now c.args.read.cells c.args.read.places c.in-Some-2.table c.in-Some.lo c.in-Some.hi =
    subst (λ xs. FitsTable c.args.told.now.pages c.args.footer.now c.args.read.cells c.args.read.places xs c.in-Some.lo c.in-Some.hi) (sym table)
    (subst (λ n. FitsTable c.args.told.now.pages c.args.footer.now c.args.read.cells c.args.read.places rows n c.in-Some.hi) same.0
    (subst (λ n. FitsTable c.args.told.now.pages c.args.footer.now c.args.read.cells c.args.read.places rows lo n) same.1 (table_fits _ _ _ _ rows lo hi has))) in
    let kept = kept_gives c.kept.result c.fits_table-fits.result _ c.in-Some-2.table c.in-Some.lo c.in-Some.hi c.kept.ensures.found c.kept.ensures.none c.fits_table-fits.ensures
    (subst (λ xs. FitsTable c.args.told.now.pages c.args.footer.now xs c.args.read.places c.in-Some-2.table c.in-Some.lo c.in-Some.hi) (sym c.as_slice-2.ensures) fits) in
    subst (λ xs. IfOk c.kept.result (λ r. option_map {U = List Numbered × ℕ × ℕ} (λ file. (file.table, file.lo, file.hi)) r ≡ Some (xs, lo, hi))) table
    (subst (λ n. IfOk c.kept.result (λ r. option_map {U = List Numbered × ℕ × ℕ} (λ file. (file.table, file.lo, file.hi)) r ≡ Some (c.in-Some-2.table, n, hi))) (sym same.0)
    (subst (λ n. IfOk c.kept.result (λ r. option_map {U = List Numbered × ℕ × ℕ} (λ file. (file.table, file.lo, file.hi)) r ≡ Some (c.in-Some-2.table, c.in-Some.lo, n))) (sym same.1) kept))
