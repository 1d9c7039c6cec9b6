-- The table of rows with these cells and this footer.
use Rattle.std.proofs.Common.{◌≡◌, ℕ, ◌<◌, ◌≤◌, ◌^◌, Bool, true, false, List, map, Option, Some, None, Result, Ok, Err, refl, sym, ap, true≢false, rules}
use Rattle.std.specs.Prelude.{All, Decides, IfOk, IfSome, IsSorted, option_map}
use Rattle.fd_kinds.specs.declared.row.Numbered.{Numbered}
use Rattle.fd_column.specs.Cells.{columns_of}
use Rattle.fd_column.specs.RowNumbers.{numbered_cmp}
use Rattle.fd_pages.specs.declared.cell.Cell.{Cell}
use Rattle.fd_footer.specs.declared.footer.Pages.{Pages}
use Rattle.fd_footer.specs.declared.footer.Chunk.{Chunk}
use Rattle.fd_footer.specs.declared.table.FooterTable.{FooterTable}
use Rattle.fd_footer.specs.Contents.{have_text_names}
use Rattle.fd_parquet.specs.declared.reader.FileTable.{FileTable}
use Rattle.fd_table_file.specs.Columns.{file_column}
use Rattle.fd_table_file.specs.Files.{IsWithin}
use Rattle.fd_parquet.specs.Stages.{IsFooterOf, FitsTable, HasTable, told_of}
use Rattle.fd_parquet.proofs.LayoutLaws.{names_are_texts}

-- what is known of a footer that tells a table
abbrev pub TellsItsRows : List ℕ → FooterTable → Type 0
TellsItsRows footer told = (pages : Pages) (rows : List Numbered) (lo hi : ℕ) (places : List Chunk) → IsFooterOf pages footer rows lo hi places → have_text_names (map file_column (columns_of rows)) ≡ true → told ≡ told_of pages rows lo hi

pub has_table : (footer : List ℕ) (told : FooterTable) (cells : List (List Cell)) (places : List Chunk) (rows : List Numbered) (lo hi : ℕ) → TellsItsRows footer told
    → (told.lo ≡ Some lo) × (told.hi ≡ Some hi) × (lo ≤ hi) × (hi < 2 ^ 63) → All (IsWithin lo hi) rows → IsSorted numbered_cmp rows → FitsTable told.pages footer cells places rows lo hi
    → HasTable told cells places footer rows lo hi
has_table footer told cells places rows lo hi law range within sorted fits = record {
  lowest = range.0;
  highest = range.1;
  range = range.2;
  below = range.3;
  names = fits.names;
  are = record {
    have = record { same = ap (λ (t : FooterTable). t.columns) (law told.pages rows lo hi places fits.footer_is (names_are_texts rows fits.names)); each = fits.each };
    within = within;
    sorted = sorted;
  };
  footer_is = fits.footer_is;
}

-- ---- a table that is kept where it fits

-- the table that is kept is this one, and it fits
abbrev pub IsKept : {E : Type 0} → Result Bool E → List Numbered → ℕ → ℕ → FileTable → Type 0
IsKept fits rows lo hi f = (fits ≡ Ok true) × (f.table ≡ rows) × (f.lo ≡ lo) × (f.hi ≡ hi)

pub fits_when : {E : Type 0} (fits : Result Bool E) (P : Type 0) → IfOk fits (λ b. Decides b P) → fits ≡ Ok true → P
fits_when (Ok true) P d e = d.0 refl
fits_when (Ok false) P d e = absurd (search (rules, e))
fits_when (Err x) P d e = absurd (search (rules, e))

fits_not : {E : Type 0} (fits : Result Bool E) (P : Type 0) → IfOk fits (λ b. Decides b P) → fits ≡ Ok false → P → ⊥
fits_not (Ok true) P d e p = search (rules, e)
fits_not (Ok false) P d e p = true≢false (sym (d.1 p))
fits_not (Err x) P d e p = search (rules, e)

pub kept_found : {E : Type 0} (result : Result (Option FileTable) E) (fits : Result Bool E) (rows : List Numbered) (lo hi : ℕ) (P : FileTable → Type 0)
    → IfOk result (λ file. IfSome file (IsKept fits rows lo hi)) → (fits ≡ Ok true → (f : FileTable) → f.table ≡ rows → f.lo ≡ lo → f.hi ≡ hi → P f) → IfOk result (λ r. IfSome r P)
kept_found (Err e) fits rows lo hi P found by = tt
kept_found (Ok None) fits rows lo hi P found by = tt
kept_found (Ok (Some f)) fits rows lo hi P found by = by found.0 f found.1 found.2 found.3

pub kept_gives : {E : Type 0} (result : Result (Option FileTable) E) (fits : Result Bool E) (P : Type 0) (rows : List Numbered) (lo hi : ℕ)
    → IfOk result (λ file. IfSome file (IsKept fits rows lo hi)) → IfOk result (λ file. file ≡ None → fits ≡ Ok false) → IfOk fits (λ b. Decides b P) → P
    → IfOk result (λ r. option_map {U = List Numbered × ℕ × ℕ} (λ file. (file.table, file.lo, file.hi)) r ≡ Some (rows, lo, hi))
kept_gives (Err e) fits P rows lo hi found none d p = tt
kept_gives (Ok None) fits P rows lo hi found none d p = absurd (fits_not fits P d (none refl) p)
kept_gives (Ok (Some f)) fits P rows lo hi found none d p = λ i. Some (found.1 i, found.2 i, found.3 i)

-- the rows that have the cells are the ones that fit
pub table_fits : (told : FooterTable) (cells : List (List Cell)) (places : List Chunk) (footer : List ℕ) (rows : List Numbered) (lo hi : ℕ) → HasTable told cells places footer rows lo hi
    → FitsTable told.pages footer cells places rows lo hi
table_fits told cells places footer rows lo hi has = record { each = has.are.have.each; names = has.names; footer_is = has.footer_is }
