-- What is read of the parts of a file, and which file they make up.
use Rattle.std.proofs.Common.{◌≡◌, ◌≢◌, ℕ, suc, ◌+◌, ◌<◌, ◌^◌, inl, inr, Bool, true, false, ℤ, pos, negsuc, List, [], ◌∷◌, ◌++◌, length, map, Option, Some, None, Result, Ok, Err, refl, sym, ap, ◌∙◌, subst, arith, rules, true≢false, ◌==◌}
use Rattle.std.specs.Prelude.{All, IsUtf8, Decides, unwrap_or}
use Rattle.std.specs.List.{AllZip}
use Rattle.std.proofs.lemmas.List.{append-nil, length-map}
use Rattle.std.proofs.lemmas.List.Elements.{All-nil, All-cons, All-head, All-tail}
use Rattle.fd_kinds.specs.declared.row.Numbered.{Numbered}
use Rattle.fd_column.specs.Cells.{Column, name as name_column, columns_of, column_name, cell_of}
use Rattle.fd_thrift.specs.Values.{Value}
use Rattle.fd_thrift.specs.Format.{Spells}
use Rattle.fd_pages.specs.declared.cell.Cell.{Cell}
use Rattle.fd_pages.specs.declared.cell.CellKind.{CellKind}
use Rattle.fd_pages.specs.Columns.{Fits}
use Rattle.fd_footer.specs.declared.footer.Pages.{Pages}
use Rattle.fd_footer.specs.declared.footer.Pages.TheVariants.{Plain, Dict}
use Rattle.fd_footer.specs.declared.footer.Chunk.{Chunk}
use Rattle.fd_footer.specs.declared.footer.Footer.{Footer}
use Rattle.fd_footer.specs.declared.footer.Column.{Column as FileColumn}
use Rattle.fd_footer.specs.declared.table.FooterTable.{FooterTable}
use Rattle.fd_footer.specs.Tables.{total_size}
use Rattle.fd_footer.specs.Footers.{footer_value, footer_bytes, IsWritable, IsPlaced}
use Rattle.fd_footer.specs.Layout.{are_own}
use Rattle.fd_footer.specs.Contents.{table_of, have_text_names}
use Rattle.std.specs.Borrow.{Bor}
use Rattle.fd_parquet.specs.declared.columns.ColumnCells.{ColumnCells as AnyColumns}
use Rattle.fd_parquet.specs.declared.fault.FileFault.{FileFault}
use Rattle.fd_parquet.specs.declared.fault.FileFault.TheVariants.{Magic, Footer as FooterFault, Schema, Page, NoMemory}
use Rattle.fd_table_file.specs.Columns.{file_column, file_cell, cells_of, HasText}
use Rattle.fd_table_file.specs.Chunks.{Pieces, IsChunk, IsChunkOf}
use Rattle.fd_table_file.specs.Files.{framed, places_from, chunk_bytes, footer_at, footer_of, IsFileOf}
use Rattle.fd_parquet.specs.Refusals.{HasMagic, Holds, TellsTree, TellsTable, IsColumn, AreColumns, BeginsColumns, FailsAt, HasAll, HasFile, RefusesPage, Refuses, IsRefused, Finds}
use Rattle.fd_parquet.specs.Stages.{IsFailure, AreRows, HaveTexts, IsFooterOf, HasTable, TellsOf, IsRead, told_of, IsFrameFault, IsFooterFault, TellsOrRefuses, AreParts, HasParts, RefusesParts, IsPartsFault}
use Rattle.fd_parquet.proofs.Injectivity.{not_some, number_is}
use Rattle.fd_parquet.proofs.MagicLaws.{holds_magic}
use Rattle.fd_parquet.proofs.LayoutLaws.{columns_own, chunked_names}

-- ---- what is known of footers, of the places of chunks, and of the cells in them

abbrev pub AreSpelled : Type 0
AreSpelled = (f : Footer) → IsWritable f → length (footer_bytes f) < 2 ^ 64 → Spells (footer_bytes f) (footer_value f)

abbrev pub HaveCount : Type 0
HaveCount = (at : ℕ) (chunks : List Pieces) → length (places_from at chunks) ≡ length chunks

abbrev pub HavePlaces : Type 0
HavePlaces = (at : ℕ) (chunks : List Pieces) → at + length (chunk_bytes chunks) < 2 ^ 63 → All IsPlaced (places_from at chunks)

abbrev pub HaveSizes : Type 0
HaveSizes = (at : ℕ) (chunks : List Pieces) → total_size (places_from at chunks) ≡ length (chunk_bytes chunks)

abbrev pub CellsFit : Type 0
CellsFit = (dictionary : Bool) (kind : CellKind) (required : Bool) (cells : List Cell) (chunk : Pieces) → IsChunk dictionary kind required cells chunk → All Fits cells

-- ---- what a footer tells

pub footer_tells : ((a b x y : List ℕ) (v w : Value) → Spells a v → Spells b w → a ++ x ≡ b ++ y → (v ≡ w) × (a ≡ b))
    → ((f : Footer) → IsWritable f → have_text_names f.columns ≡ true → are_own f.columns ≡ true
    → ◌≡◌ {A = Option FooterTable} (table_of (footer_value f)) (Some (record { pages = f.pages; lo = Some f.lo; hi = Some f.hi; rows = pos f.rows; columns = f.columns })))
    → AreSpelled
    → (footer : List ℕ) (v : Value) (told : FooterTable) (pages : Pages) (rows : List Numbered) (lo hi : ℕ) (places : List Chunk)
    → TellsOf footer v told → IsFooterOf pages footer rows lo hi places → length footer < 2 ^ 32 → have_text_names (map file_column (columns_of rows)) ≡ true → told ≡ told_of pages rows lo hi
footer_tells one_spelling tables spells footer v told pages rows lo hi places tells is short names =
    let f : Footer = footer_at pages rows lo hi places in
    let few : length (footer_bytes f) < 2 ^ 64 = omega (arith, short, ap length is.spelled) in
    let spelled : Spells footer (footer_value f) = subst (λ b. Spells b (footer_value f)) (sym is.spelled) (spells f is.writable few) in
    let same : v ≡ footer_value f = (one_spelling footer footer [] [] v (footer_value f) tells.spelled spelled refl).0 in
    let e : Some told ≡ Some (told_of pages rows lo hi) = sym tells.tabled ∙ ap table_of same ∙ tables f is.writable names (columns_own rows) in
    ap (λ o. unwrap_or o told) e

-- ---- the cells that were read

texts_of : (pages : Pages) (count : ℕ) (columns : List FileColumn) (cells : List (List Cell)) (chunks : List Pieces) → AreColumns pages count columns cells chunks → AllZip (λ f cells. All (HasText f) cells) columns cells
texts_of pages count [] [] [] are = tt
texts_of pages count [] [] (x ∷ xs) are = absurd are
texts_of pages count [] (c ∷ cs) [] are = absurd are
texts_of pages count [] (c ∷ cs) (x ∷ xs) are = absurd are
texts_of pages count (f ∷ fs) [] [] are = absurd are
texts_of pages count (f ∷ fs) [] (x ∷ xs) are = absurd are
texts_of pages count (f ∷ fs) (c ∷ cs) [] are = absurd are
texts_of pages count (f ∷ fs) (c ∷ cs) (x ∷ xs) are =
    let first : IsColumn pages f count c x = are.0 in
    (first.texts, texts_of pages count fs cs xs are.1)

fit_of : CellsFit → (pages : Pages) (count : ℕ) (columns : List FileColumn) (cells : List (List Cell)) (chunks : List Pieces) → AreColumns pages count columns cells chunks → All (All Fits) cells
fit_of fits pages count [] [] [] are = All-nil (All Fits)
fit_of fits pages count [] [] (x ∷ xs) are = absurd are
fit_of fits pages count [] (c ∷ cs) [] are = absurd are
fit_of fits pages count [] (c ∷ cs) (x ∷ xs) are = absurd are
fit_of fits pages count (f ∷ fs) [] [] are = absurd are
fit_of fits pages count (f ∷ fs) [] (x ∷ xs) are = absurd are
fit_of fits pages count (f ∷ fs) (c ∷ cs) [] are = absurd are
fit_of fits pages count (f ∷ fs) (c ∷ cs) (x ∷ xs) are =
    let first : IsColumn pages f count c x = are.0 in
    All-cons (All Fits) c cs (fits _ _ _ c x first.spelled) (fit_of fits pages count fs cs xs are.1)

pub have_texts : CellsFit → (told : FooterTable) (count : ℕ) (cells : List (List Cell)) (places : List Chunk) → IsRead told count cells places → HaveTexts told.columns cells
have_texts fits told count cells places read = record {
  texts = texts_of told.pages count told.columns cells read.begins.chunks read.begins.are;
  fit = fit_of fits told.pages count told.columns cells read.begins.chunks read.begins.are;
}

chunks_count : (pages : Pages) (count : ℕ) (columns : List FileColumn) (cells : List (List Cell)) (chunks : List Pieces) → AreColumns pages count columns cells chunks → length chunks ≡ length cells
chunks_count pages count [] [] [] are = refl
chunks_count pages count [] [] (x ∷ xs) are = absurd are
chunks_count pages count [] (c ∷ cs) [] are = absurd are
chunks_count pages count [] (c ∷ cs) (x ∷ xs) are = absurd are
chunks_count pages count (f ∷ fs) [] [] are = absurd are
chunks_count pages count (f ∷ fs) [] (x ∷ xs) are = absurd are
chunks_count pages count (f ∷ fs) (c ∷ cs) [] are = absurd are
chunks_count pages count (f ∷ fs) (c ∷ cs) (x ∷ xs) are = ap suc (chunks_count pages count fs cs xs are.1)

columns_count : (pages : Pages) (count : ℕ) (columns : List FileColumn) (cells : List (List Cell)) (chunks : List Pieces) → AreColumns pages count columns cells chunks → length cells ≡ length columns
columns_count pages count [] [] [] are = refl
columns_count pages count [] [] (x ∷ xs) are = absurd are
columns_count pages count [] (c ∷ cs) [] are = absurd are
columns_count pages count [] (c ∷ cs) (x ∷ xs) are = absurd are
columns_count pages count (f ∷ fs) [] [] are = absurd are
columns_count pages count (f ∷ fs) [] (x ∷ xs) are = absurd are
columns_count pages count (f ∷ fs) (c ∷ cs) [] are = absurd are
columns_count pages count (f ∷ fs) (c ∷ cs) (x ∷ xs) are = ap suc (columns_count pages count fs cs xs are.1)

-- cells for each column
pub cells_told : (told : FooterTable) (count : ℕ) (cells : List (List Cell)) (places : List Chunk) → IsRead told count cells places → length cells ≡ length told.columns
cells_told told count cells places read = columns_count told.pages count told.columns cells read.begins.chunks read.begins.are

lists_count : (rows : List Numbered) (cs : List Column) → length (map (λ c. cells_of c rows) cs) ≡ length cs
lists_count rows [] = refl
lists_count rows (c ∷ cs) = ap suc (lists_count rows cs)

-- a place for each column
pub places_count : HaveCount → (told : FooterTable) (count : ℕ) (cells : List (List Cell)) (places : List Chunk) → IsRead told count cells places → length places ≡ length cells
places_count counted told count cells places read =
    ap length read.begins.placed ∙ counted 4 read.begins.chunks ∙ chunks_count told.pages count told.columns cells read.begins.chunks read.begins.are

pub cells_count : (cells : List (List Cell)) (rows : List Numbered) → cells ≡ map (λ c. cells_of c rows) (columns_of rows) → length cells ≡ length (columns_of rows)
cells_count cells rows same = ap length same ∙ lists_count rows (columns_of rows)

body_length : (told : FooterTable) (count : ℕ) (cells : List (List Cell)) (places : List Chunk) → (read : IsRead told count cells places) → 4 + length (chunk_bytes read.begins.chunks) < 2 ^ 63
body_length told count cells places read =
    let n : length read.body ≡ length (chunk_bytes read.begins.chunks) = ap length read.begins.whole ∙ ap length (append-nil (chunk_bytes read.begins.chunks)) in
    omega (arith, n, read.short)

pub places_fit : HavePlaces → (told : FooterTable) (count : ℕ) (cells : List (List Cell)) (places : List Chunk) → IsRead told count cells places → All IsPlaced places
places_fit placed told count cells places read =
    subst (λ ks. All IsPlaced ks) (sym read.begins.placed) (placed 4 read.begins.chunks (body_length told count cells places read))

pub sizes_fit : HaveSizes → (told : FooterTable) (count : ℕ) (cells : List (List Cell)) (places : List Chunk) → IsRead told count cells places → total_size places < 2 ^ 63
sizes_fit sized told count cells places read =
    let few : 4 + length (chunk_bytes read.begins.chunks) < 2 ^ 63 = body_length told count cells places read in
    let e : total_size places ≡ length (chunk_bytes read.begins.chunks) = ap total_size read.begins.placed ∙ sized 4 read.begins.chunks in
    omega (arith, e, few)

-- ---- the parts of a file

cells_length : (c : Column) (rows : List Numbered) → length (cells_of c rows) ≡ length rows
unfolding cells_of
cells_length c rows = length-map rows (λ n. file_cell (cell_of c n))

columns_are : (rows : List Numbered) (cs : List Column) (chunks : List Pieces) → AllZip (IsChunkOf Plain rows) cs chunks → AreColumns Plain (length rows) (map file_column cs) (map (λ c. cells_of c rows) cs) chunks
columns_are rows [] [] are = tt
columns_are rows [] (x ∷ xs) are = absurd are
columns_are rows (c ∷ cs) [] are = absurd are
columns_are rows (c ∷ cs) (x ∷ xs) are =
    let first : IsChunkOf Plain rows c x = are.0 in
    (record { plain = refl; counted = cells_length c rows; texts = first.texts; spelled = first.chunk }, columns_are rows cs xs are.1)

names_are : (pages : Pages) (rows : List Numbered) (cs : List Column) (chunks : List Pieces) → AllZip (IsChunkOf pages rows) cs chunks → All IsUtf8 (map column_name cs)
names_are pages rows [] [] are = All-nil IsUtf8
names_are pages rows [] (x ∷ xs) are = absurd are
names_are pages rows (c ∷ cs) [] are = absurd are
names_are pages rows (c ∷ cs) (x ∷ xs) are =
    let first : IsChunkOf pages rows c x = are.0 in
    All-cons IsUtf8 (column_name c) (map column_name cs) first.name (names_are pages rows cs xs are.1)

pub parts_tell : (pages : Pages) (body footer : List ℕ) (rows : List Numbered) (lo hi : ℕ) → AreParts pages body footer rows lo hi → have_text_names (map file_column (columns_of rows)) ≡ true
parts_tell pages body footer rows lo hi p = chunked_names pages rows p.chunks p.spelled

-- the columns of the parts are read
pub parts_begin : (body footer : List ℕ) (rows : List Numbered) (lo hi : ℕ) (told : FooterTable) → told ≡ told_of Plain rows lo hi → (p : AreParts Plain body footer rows lo hi)
    → BeginsColumns told.pages (length rows) 4 told.columns body (map (λ c. cells_of c rows) (columns_of rows)) (places_from 4 p.chunks) []
parts_begin body footer rows lo hi told is p =
    subst (λ (t : FooterTable). BeginsColumns t.pages (length rows) 4 t.columns body (map (λ c. cells_of c rows) (columns_of rows)) (places_from 4 p.chunks) []) (sym is) (record {
      chunks = p.chunks;
      whole = p.body_is ∙ sym (append-nil (chunk_bytes p.chunks));
      are = columns_are rows (columns_of rows) p.chunks p.spelled;
      placed = refl;
    })

pub parts_table : (body footer : List ℕ) (rows : List Numbered) (lo hi : ℕ) (told : FooterTable) → told ≡ told_of Plain rows lo hi → (p : AreParts Plain body footer rows lo hi)
    → HasTable told (map (λ c. cells_of c rows) (columns_of rows)) (places_from 4 p.chunks) footer rows lo hi
parts_table body footer rows lo hi told is p =
    subst (λ (t : FooterTable). HasTable t (map (λ c. cells_of c rows) (columns_of rows)) (places_from 4 p.chunks) footer rows lo hi) (sym is) (record {
      lowest = refl;
      highest = refl;
      range = p.range;
      below = p.below;
      names = names_are Plain rows (columns_of rows) p.chunks p.spelled;
      are = record { have = record { same = refl; each = refl }; within = p.within; sorted = p.sorted };
      footer_is = p.footer_is;
    })

chunks_are : (pages : Pages) (count : ℕ) (rows : List Numbered) (cs : List Column) (chunks : List Pieces) → All IsUtf8 (map column_name cs)
    → AreColumns pages count (map file_column cs) (map (λ c. cells_of c rows) cs) chunks → AllZip (IsChunkOf pages rows) cs chunks
chunks_are pages count rows [] [] names are = tt
chunks_are pages count rows [] (x ∷ xs) names are = absurd are
chunks_are pages count rows (c ∷ cs) [] names are = absurd are
chunks_are pages count rows (c ∷ cs) (x ∷ xs) names are =
    let first : IsColumn pages (file_column c) count (cells_of c rows) x = are.0 in
    (record { name = All-first c cs names; texts = first.texts; chunk = first.spelled }, chunks_are pages count rows cs xs (All-rest c cs names) are.1)
  where
    All-first : (c : Column) (cs : List Column) → All IsUtf8 (map column_name (c ∷ cs)) → IsUtf8 (column_name c)
    All-first c cs all = All-head IsUtf8 (column_name c) (map column_name cs) all

    All-rest : (c : Column) (cs : List Column) → All IsUtf8 (map column_name (c ∷ cs)) → All IsUtf8 (map column_name cs)
    All-rest c cs all = All-tail IsUtf8 (column_name c) (map column_name cs) all

-- what was read are the parts of the file of the table
pub table_parts : (told : FooterTable) (count : ℕ) (body footer : List ℕ) (cells : List (List Cell)) (places : List Chunk) (rest : List ℕ) (rows : List Numbered) (lo hi : ℕ)
    → HasTable told cells places footer rows lo hi → BeginsColumns told.pages count 4 told.columns body cells places rest → rest ≡ [] → AreParts told.pages body footer rows lo hi
table_parts told count body footer cells places rest rows lo hi has b none =
    let c : AreColumns told.pages count (map file_column (columns_of rows)) (map (λ c. cells_of c rows) (columns_of rows)) b.chunks =
    subst (λ xs. AreColumns told.pages count (map file_column (columns_of rows)) xs b.chunks) has.are.have.each
    (subst (λ fs. AreColumns told.pages count fs cells b.chunks) has.are.have.same b.are) in
    record {
      range = has.range;
      below = has.below;
      within = has.are.within;
      sorted = has.are.sorted;
      chunks = b.chunks;
      spelled = chunks_are told.pages count rows (columns_of rows) b.chunks has.names c;
      body_is = b.whole ∙ ap (λ xs. chunk_bytes b.chunks ++ xs) none ∙ append-nil (chunk_bytes b.chunks);
      footer_is = subst (λ ks. IsFooterOf told.pages footer rows lo hi ks) b.placed has.footer_is;
    }

-- ---- only plain pages are read

-- the second column of a table has texts
plain_by : (pages : Pages) (count : ℕ) (rows : List Numbered) (cells : List (List Cell)) (chunks : List Pieces) → AreColumns pages count (map file_column (columns_of rows)) cells chunks → pages ≡ Plain
plain_by Plain count rows cells chunks are = refl
plain_by Dict count rows [] [] are = absurd are
plain_by Dict count rows [] (x ∷ xs) are = absurd are
plain_by Dict count rows (a ∷ cells) [] are = absurd are
plain_by Dict count rows (a ∷ []) (x ∷ []) are = absurd are.1
plain_by Dict count rows (a ∷ []) (x ∷ y ∷ xs) are = absurd are.1
plain_by Dict count rows (a ∷ b ∷ cells) (x ∷ []) are = absurd are.1
plain_by Dict count rows (a ∷ b ∷ cells) (x ∷ y ∷ xs) are =
    let second : IsColumn Dict (file_column name_column) count b y = are.1.0 in
    absurd (true≢false second.plain)

pub plain_pages : (pages : Pages) (count place : ℕ) (columns : List FileColumn) (body : List ℕ) (cells : List (List Cell)) (places : List Chunk) (rest : List ℕ) (rows : List Numbered)
    → columns ≡ map file_column (columns_of rows) → BeginsColumns pages count place columns body cells places rest → pages ≡ Plain
plain_pages pages count place columns body cells places rest rows same b =
    plain_by pages count rows cells b.chunks (subst (λ fs. AreColumns pages count fs cells b.chunks) same b.are)

-- what was read are the parts of a file with plain pages
pub plain_table : (told : FooterTable) (count : ℕ) (body footer : List ℕ) (cells : List (List Cell)) (places : List Chunk) (rest : List ℕ) (rows : List Numbered) (lo hi : ℕ)
    → HasTable told cells places footer rows lo hi → BeginsColumns told.pages count 4 told.columns body cells places rest → rest ≡ [] → AreParts Plain body footer rows lo hi
plain_table told count body footer cells places rest rows lo hi has b none =
    subst (λ k. AreParts k body footer rows lo hi) (plain_pages told.pages count 4 told.columns body cells places rest rows has.are.have.same b)
    (table_parts told count body footer cells places rest rows lo hi has b none)

-- ---- answers about the parts

-- an error is no answer but for want of memory
pub err_gives : {X Y U V : Type 0} (see : X → Y) (other : U → V) (fault : FileFault) (y : Y) (v : V) → Finds see (Err fault) y → Finds other (Err fault) v
err_gives see other Magic y v g = absurd g
err_gives see other FooterFault y v g = absurd g
err_gives see other Schema y v g = absurd g
err_gives see other (Page k) y v g = absurd g
err_gives see other NoMemory y v g = tt

pub err_refused : (Z : Type 0) {X Y : Type 0} (see : X → Y) (fault : FileFault) (y : Y) (other : FileFault) → Finds see (Err fault) y → IsRefused {A = Z} other (Err fault)
err_refused Z see Magic y other g = absurd g
err_refused Z see FooterFault y other g = absurd g
err_refused Z see Schema y other g = absurd g
err_refused Z see (Page k) y other g = absurd g
err_refused Z see NoMemory y other g = tt

-- ---- the whole file

pub parts_file : (pages : Pages) (bytes body footer : List ℕ) (rows : List Numbered) (lo hi : ℕ) → Holds bytes body footer → AreParts pages body footer rows lo hi → IsFileOf pages bytes rows lo hi
parts_file pages bytes body footer rows lo hi holds p = record {
  range = p.range;
  below = p.below;
  within = p.within;
  sorted = p.sorted;
  chunks = p.chunks;
  spelled = p.spelled;
  writable = p.footer_is.writable;
  short = subst (λ xs. length xs < 2 ^ 32) p.footer_is.spelled holds.short;
  whole = subst (λ xs. bytes ≡ framed (chunk_bytes p.chunks) xs) p.footer_is.spelled (subst (λ xs. bytes ≡ framed xs footer) p.body_is holds.whole);
}

-- the parts are the only ones of the bytes
abbrev AreOnly : List ℕ → List ℕ → List ℕ → Type 0
AreOnly bytes body footer = (b f : List ℕ) → Holds bytes b f → ◌≡◌ {A = List ℕ × List ℕ} (body, footer) (b, f)

file_holds : (pages : Pages) (bytes : List ℕ) (rows : List Numbered) (lo hi : ℕ) → (is : IsFileOf pages bytes rows lo hi) → Holds bytes (chunk_bytes is.chunks) (footer_bytes (footer_of pages rows lo hi is.chunks))
file_holds pages bytes rows lo hi is = record { short = is.short; whole = is.whole }

pub file_parts : (pages : Pages) (bytes body footer : List ℕ) (rows : List Numbered) (lo hi : ℕ) → AreOnly bytes body footer → IsFileOf pages bytes rows lo hi → AreParts pages body footer rows lo hi
file_parts pages bytes body footer rows lo hi one is =
    let same = one (chunk_bytes is.chunks) (footer_bytes (footer_of pages rows lo hi is.chunks)) (file_holds pages bytes rows lo hi is) in
    record {
      range = is.range;
      below = is.below;
      within = is.within;
      sorted = is.sorted;
      chunks = is.chunks;
      spelled = is.spelled;
      body_is = ap (λ p. p.0) same;
      footer_is = record { writable = is.writable; spelled = ap (λ p. p.1) same };
    }

has_parts : (bytes body footer : List ℕ) → AreOnly bytes body footer → HasFile bytes → HasParts body footer
has_parts bytes body footer one (pages, rows, lo, hi, is) = (pages, rows, lo, hi, file_parts pages bytes body footer rows lo hi one is)

has_file : (bytes body footer : List ℕ) → Holds bytes body footer → HasParts body footer → HasFile bytes
has_file bytes body footer holds (pages, rows, lo, hi, p) = (pages, rows, lo, hi, parts_file pages bytes body footer rows lo hi holds p)

page_refused : (bytes body footer : List ℕ) (t : FooterTable) (z : ℤ) (k : ℕ) → AreOnly bytes body footer → RefusesParts body footer t z k → RefusesPage bytes body t z k
page_refused bytes body footer t (negsuc n) k one r = r
page_refused bytes body footer t (pos count) k one (inl fails) = inl fails
page_refused bytes body footer t (pos count) k one (inr (is, all, none)) = inr (is, all, λ file. none (has_parts bytes body footer one file))

parts_refused : (bytes body footer : List ℕ) (t : FooterTable) (z : ℤ) (k : ℕ) → Holds bytes body footer → RefusesPage bytes body t z k → RefusesParts body footer t z k
parts_refused bytes body footer t (negsuc n) k holds r = r
parts_refused bytes body footer t (pos count) k holds (inl fails) = inl fails
parts_refused bytes body footer t (pos count) k holds (inr (is, all, none)) = inr (is, all, λ parts. none (has_file bytes body footer holds parts))

-- ---- faults, stage by stage

pub frame_refuses : (bytes : List ℕ) (fault : FileFault) → IsFrameFault bytes fault → Refuses bytes fault
frame_refuses bytes Magic f = f
frame_refuses bytes FooterFault f = (f.0, λ body v t. f.1 body t.footer t.holds)
frame_refuses bytes Schema f = absurd f
frame_refuses bytes (Page k) f = absurd f
frame_refuses bytes NoMemory f = absurd f

tree_magic : (bytes body : List ℕ) (v : Value) → TellsTree bytes body v → HasMagic bytes
tree_magic bytes body v t = holds_magic bytes body t.footer t.holds

pub frame_only : (X : Type 0) (bytes : List ℕ) (fault other : FileFault) → IsFrameFault bytes fault → Refuses bytes other → IsRefused {A = X} other (Err fault)
frame_only X bytes Magic Magic f r = refl
frame_only X bytes Magic FooterFault f r = absurd (f r.0)
frame_only X bytes Magic Schema f (body, v, t, none) = absurd (f (tree_magic bytes body v t))
frame_only X bytes Magic (Page k) f (body, t, tells, r) = absurd (f (tree_magic bytes body tells.tree tells.told))
frame_only X bytes Magic NoMemory f r = absurd r
frame_only X bytes FooterFault Magic f r = absurd (r f.0)
frame_only X bytes FooterFault FooterFault f r = refl
frame_only X bytes FooterFault Schema f (body, v, t, none) = absurd (f.1 body t.footer t.holds)
frame_only X bytes FooterFault (Page k) f (body, t, tells, r) = absurd (f.1 body tells.told.footer tells.told.holds)
frame_only X bytes FooterFault NoMemory f r = absurd r
frame_only X bytes Schema other f r = absurd f
frame_only X bytes (Page k) other f r = absurd f
frame_only X bytes NoMemory other f r = absurd f

-- bytes without parts have no file
pub frame_gives : {X Y : Type 0} (see : X → Y) (pages : Pages) (bytes : List ℕ) (fault : FileFault) (rows : List Numbered) (lo hi : ℕ) (y : Y) → IsFrameFault bytes fault → IsFileOf pages bytes rows lo hi → Finds see (Err fault) y
frame_gives see pages bytes Magic rows lo hi y f is =
    absurd (f (holds_magic bytes (chunk_bytes is.chunks) (footer_bytes (footer_of pages rows lo hi is.chunks)) (file_holds pages bytes rows lo hi is)))
frame_gives see pages bytes FooterFault rows lo hi y f is =
    absurd (f.1 (chunk_bytes is.chunks) (footer_bytes (footer_of pages rows lo hi is.chunks)) (file_holds pages bytes rows lo hi is))
frame_gives see pages bytes Schema rows lo hi y f is = absurd f
frame_gives see pages bytes (Page k) rows lo hi y f is = absurd f
frame_gives see pages bytes NoMemory rows lo hi y f is = absurd f

module _ (bytes body footer : List ℕ) (holds : Holds bytes body footer) (one : AreOnly bytes body footer) where
  same_footer : (b : List ℕ) (v : Value) → (t : TellsTree bytes b v) → t.footer ≡ footer
  same_footer b v t = sym (ap (λ p. p.1) (one b t.footer t.holds))

  spells : (b : List ℕ) (v : Value) → TellsTree bytes b v → Spells footer v
  spells b v t = subst (λ f. Spells f v) (same_footer b v t) t.spelled

  same_body : (b : List ℕ) (v : Value) → TellsTree bytes b v → b ≡ body
  same_body b v t = sym (ap (λ p. p.0) (one b t.footer t.holds))

  not_both : {b : Bool} {P : Type 0} → b ≡ true → b ≡ false → P
  not_both t f = absurd (true≢false (sym t ∙ f))

  pub footer_refuses : (fault : FileFault) → fault ≢ NoMemory → IsFooterFault footer fault → Refuses bytes fault
  footer_refuses Magic some f = absurd f
  footer_refuses FooterFault some f = (holds_magic bytes body footer holds, λ b v t. not_both t.shape (f v (spells b v t)))
  footer_refuses Schema some (v, spelled, shape, none) = (body, v, record { footer = footer; holds = holds; spelled = spelled; shape = shape }, none)
  footer_refuses (Page k) some f = absurd f
  footer_refuses NoMemory some f = absurd (some refl)

  some_none : {A P : Type 0} {o : Option A} {x : A} → o ≡ Some x → o ≡ None → P
  some_none {x = x} s n = absurd (not_some x (sym n ∙ s))

  pub footer_only : (X : Type 0) (fault other : FileFault) → IsFooterFault footer fault → ((v : Value) → Spells footer v → TellsOrRefuses v (Err fault)) → Refuses bytes other → IsRefused {A = X} other (Err fault)
  footer_only X Magic other f only r = absurd f
  footer_only X FooterFault Magic f only r = absurd (r (holds_magic bytes body footer holds))
  footer_only X FooterFault FooterFault f only r = refl
  footer_only X FooterFault Schema f only (b, v, t, none) = not_both t.shape (f v (spells b v t))
  footer_only X FooterFault (Page k) f only (b, t, tells, r) = not_both tells.told.shape (f tells.tree (spells b tells.tree tells.told))
  footer_only X FooterFault NoMemory f only r = absurd r
  footer_only X Schema Magic f only r = absurd (r (holds_magic bytes body footer holds))
  footer_only X Schema FooterFault (v, spelled, shape, none) only r = absurd (r.1 body v (record { footer = footer; holds = holds; spelled = spelled; shape = shape }))
  footer_only X Schema Schema f only r = refl
  footer_only X Schema (Page k) f only (b, t, tells, r) = some_none tells.tabled (only tells.tree (spells b tells.tree tells.told)).1
  footer_only X Schema NoMemory f only r = absurd r
  footer_only X (Page k) other f only r = absurd f
  footer_only X NoMemory other f only r = tt

  pub parts_refuse : (t : FooterTable) (v : Value) (fault : FileFault) → TellsOf footer v t → fault ≢ NoMemory → IsPartsFault body footer t fault → Refuses bytes fault
  parts_refuse t v Magic tells some f = absurd f
  parts_refuse t v FooterFault tells some f = absurd f
  parts_refuse t v Schema tells some f = absurd f
  parts_refuse t v (Page k) tells some f =
      (body, t, record { tree = v; told = record { footer = footer; holds = holds; spelled = tells.spelled; shape = tells.shape }; tabled = tells.tabled }, page_refused bytes body footer t t.rows k one f)
  parts_refuse t v NoMemory tells some f = absurd (some refl)

  told_same : (b : List ℕ) (t told : FooterTable) → TellsTable bytes b t → ((v : Value) → Spells footer v → TellsOrRefuses v (Ok told)) → t ≡ told
  told_same b t told tells only =
      let e : Some t ≡ Some told = sym tells.tabled ∙ (only tells.tree (spells b tells.tree tells.told)).1 in
      ap (λ o. unwrap_or o t) e

  pub parts_only : (X : Type 0) (t : FooterTable) (v : Value) (other : FileFault) (result : Result X FileFault) → TellsOf footer v t → ((v : Value) → Spells footer v → TellsOrRefuses v (Ok t))
      → ((k : ℕ) → RefusesParts body footer t t.rows k → IsRefused {A = X} (Page k) result) → Refuses bytes other → IsRefused {A = X} other result
  parts_only X t v Magic result tells only refused r = absurd (r (holds_magic bytes body footer holds))
  parts_only X t v FooterFault result tells only refused r = absurd (r.1 body v (record { footer = footer; holds = holds; spelled = tells.spelled; shape = tells.shape }))
  parts_only X t v Schema result tells only refused (b, w, tree, none) = some_none (only w (spells b w tree)).1 none
  parts_only X t v (Page k) result tells only refused (b, u, table, r) =
      let same : u ≡ t = told_same b u t table only in
      let here : RefusesPage bytes body t t.rows k =
      subst (λ (x : FooterTable). RefusesPage bytes body x x.rows k) same (subst (λ x. RefusesPage bytes x u u.rows k) (same_body b table.tree table.told) r) in
      refused k (parts_refused bytes body footer t t.rows k holds here)
  parts_only X t v NoMemory result tells only refused r = absurd r

-- ---- the footer of a table

writes_with : (pages : Pages) (rows : List Numbered) (lo hi : ℕ) (places : List Chunk) (none : Bool) → (length rows == 0) ≡ none → length places ≡ length (columns_of rows) → All IsPlaced places → total_size places < 2 ^ 63
    → length rows < 2 ^ 63 → lo < 2 ^ 64 → hi < 2 ^ 64 → length (map file_column (columns_of rows)) < 2 ^ 31 → IsWritable (footer_at pages rows lo hi places)
writes_with pages rows lo hi places true e count placed sizes short low high few = record {
  columns = few;
  chunks = rw e refl;
  rows = short;
  lo = low;
  hi = high;
  places = rw e (All-nil IsPlaced);
  sizes = rw e (omega arith);
}
writes_with pages rows lo hi places false e count placed sizes short low high few = record {
  columns = few;
  chunks = rw e (count ∙ sym (length-map (columns_of rows) file_column));
  rows = short;
  lo = low;
  hi = high;
  places = rw e placed;
  sizes = rw e sizes;
}

pub footer_writes : (pages : Pages) (rows : List Numbered) (lo hi : ℕ) (places : List Chunk) (f : Footer) → f ≡ footer_at pages rows lo hi places → length f.columns < 2 ^ 31 → length places ≡ length (columns_of rows) → All IsPlaced places → total_size places < 2 ^ 63
    → length rows < 2 ^ 63 → lo < 2 ^ 64 → hi < 2 ^ 64 → IsWritable (footer_at pages rows lo hi places)
footer_writes pages rows lo hi places f is few count placed sizes short low high =
    writes_with pages rows lo hi places (length rows == 0) refl count placed sizes short low high (subst (λ (g : Footer). length g.columns < 2 ^ 31) is few)

pub footer_few : (pages : Pages) (rows : List Numbered) (lo hi : ℕ) (places : List Chunk) (f : Footer) → f ≡ footer_at pages rows lo hi places → length (columns_of rows) < 2 ^ 31 → length f.columns < 2 ^ 31
footer_few pages rows lo hi places f is few = omega (arith, few, ap (λ (g : Footer). length g.columns) is, length-map (columns_of rows) file_column)

pub footer_decided : (pages : Pages) (footer bytes : List ℕ) (rows : List Numbered) (lo hi : ℕ) (places : List Chunk) (b : Bool) → IsWritable (footer_at pages rows lo hi places) → bytes ≡ footer_bytes (footer_at pages rows lo hi places)
    → Decides b (bytes ≡ footer) → Decides b (IsFooterOf pages footer rows lo hi places)
footer_decided pages footer bytes rows lo hi places b writable is d = (
  (λ t. record { writable = writable; spelled = sym (d.0 t) ∙ is }),
  (λ f. d.1 (is ∙ sym f.spelled)),
)

-- ---- rows in a range

pub same_range : (lo hi low high : ℕ) → ◌≡◌ {A = Option (ℕ × ℕ)} (Some (lo, hi)) (Some (low, high)) → (low ≡ lo) × (high ≡ hi)
same_range lo hi low high e =
    let same : ◌≡◌ {A = ℕ × ℕ} (low, high) (lo, hi) = sym (ap (λ o. unwrap_or o (lo, hi)) e) in
    (ap (λ p. p.0) same, ap (λ p. p.1) same)

pub rows_here : (columns : List FileColumn) (cells : List (List Cell)) (lo hi low high : ℕ) (rows : List Numbered) → low ≡ lo → high ≡ hi → AreRows columns cells low high rows → AreRows columns cells lo hi rows
rows_here columns cells lo hi low high rows l h are = subst (λ n. AreRows columns cells n hi rows) l (subst (λ n. AreRows columns cells low n rows) h are)

-- ---- the answer about the parts

module _ (body footer : List ℕ) (told : FooterTable)
    (law : (pages : Pages) (rows : List Numbered) (lo hi : ℕ) (places : List Chunk) → IsFooterOf pages footer rows lo hi places → have_text_names (map file_column (columns_of rows)) ≡ true → told ≡ told_of pages rows lo hi) where
  pub told_is : (pages : Pages) (rows : List Numbered) (lo hi : ℕ) → AreParts pages body footer rows lo hi → told ≡ told_of pages rows lo hi
  told_is pages rows lo hi p = law pages rows lo hi (places_from 4 p.chunks) p.footer_is (parts_tell pages body footer rows lo hi p)

  pub count_is : (count : ℕ) (rows : List Numbered) (lo hi : ℕ) → told.rows ≡ pos count → AreParts Plain body footer rows lo hi → length rows ≡ count
  count_is count rows lo hi counted p =
      number_is (length rows) count (sym (ap (λ (t : FooterTable). t.rows) (told_is Plain rows lo hi p)) ∙ counted)

  pub begins : (count : ℕ) (rows : List Numbered) (lo hi : ℕ) → told.rows ≡ pos count → (p : AreParts Plain body footer rows lo hi)
      → BeginsColumns told.pages count 4 told.columns body (map (λ c. cells_of c rows) (columns_of rows)) (places_from 4 p.chunks) []
  begins count rows lo hi counted p =
      subst (λ n. BeginsColumns told.pages n 4 told.columns body (map (λ c. cells_of c rows) (columns_of rows)) (places_from 4 p.chunks) []) (count_is count rows lo hi counted p)
      (parts_begin body footer rows lo hi told (told_is Plain rows lo hi p) p)

  -- where the count is negative
  pub negative_none : (rows : List Numbered) (lo hi : ℕ) → ((n : ℕ) → told.rows ≡ pos n → ⊥) → AreParts Plain body footer rows lo hi → ⊥
  negative_none rows lo hi negative p = negative (length rows) (ap (λ (t : FooterTable). t.rows) (told_is Plain rows lo hi p))

  negative_by : (z : ℤ) → ((n : ℕ) → z ≡ pos n → ⊥) → RefusesParts body footer told z 0
  negative_by (pos n) negative = absurd (negative n refl)
  negative_by (negsuc n) negative = refl

  pub negative_refused : ((n : ℕ) → told.rows ≡ pos n → ⊥) → IsPartsFault body footer told (Page 0)
  negative_refused negative = negative_by told.rows negative

  negative_only_by : (z : ℤ) (k : ℕ) → ((n : ℕ) → z ≡ pos n → ⊥) → RefusesParts body footer told z k → k ≡ 0
  negative_only_by (pos n) k negative r = absurd (negative n refl)
  negative_only_by (negsuc n) k negative r = r

  pub negative_only : (X : Type 0) (k : ℕ) → ((n : ℕ) → told.rows ≡ pos n → ⊥) → RefusesParts body footer told told.rows k → IsRefused {A = X} (Page k) (Err (Page 0))
  negative_only X k negative r = ap (λ n. Err (Page n)) (sym (negative_only_by told.rows k negative r))

  -- where a column is refused
  fails_by : (z : ℤ) (count k : ℕ) → z ≡ pos count → FailsAt told.pages told.columns count body k → RefusesParts body footer told z k
  fails_by z count k counted fails = subst (λ z. RefusesParts body footer told z k) (sym counted) (inl fails)

  pub columns_refused : (count : ℕ) (fault : FileFault) → told.rows ≡ pos count → IsFailure told.pages told.columns count body fault → IsPartsFault body footer told fault
  columns_refused count Magic counted f = absurd f
  columns_refused count FooterFault counted f = absurd f
  columns_refused count Schema counted f = absurd f
  columns_refused count (Page k) counted f = fails_by told.rows count k counted f
  columns_refused count NoMemory counted f = tt

  refuses_here : (count k : ℕ) → told.rows ≡ pos count → RefusesParts body footer told told.rows k → RefusesParts body footer told (pos count) k
  refuses_here count k counted r = subst (λ z. RefusesParts body footer told z k) counted r

  abbrev told_in : (A B : Type 0) → ℕ → Result A FileFault → Result B FileFault
  told_in A B k (Ok x) = Err (Page k)
  told_in A B k (Err fault) = Err fault

  -- another error than want of memory is the one that is told
  same_refused : (Y X : Type 0) (k : ℕ) (fault : FileFault) → IsRefused {A = Y} (Page k) (Err fault) → IsRefused {A = X} (Page k) (Err fault)
  same_refused Y X k NoMemory e = tt
  same_refused Y X k Magic e = absurd (search (rules, e))
  same_refused Y X k FooterFault e = absurd (search (rules, e))
  same_refused Y X k Schema e = absurd (search (rules, e))
  same_refused Y X k (Page j) e = ap (λ r. told_in Y X k r) e

  pub columns_refused_only : (X : Type 0) (count k : ℕ) (fault : FileFault) → told.rows ≡ pos count
      → ((k : ℕ) → FailsAt told.pages told.columns count body k → IsRefused {A = AnyColumns × Bor (List ℕ)} (Page k) (Err fault))
      → ((cells : List (List Cell)) (places : List Chunk) (rest : List ℕ) → BeginsColumns told.pages count 4 told.columns body cells places rest
      → Finds {X = AnyColumns × Bor (List ℕ)} {Y = (List (List Cell) × List Chunk) × List ℕ} (λ r. ((r.0.cells, r.0.places), r.1.now)) (Err fault) ((cells, places), rest))
      → RefusesParts body footer told told.rows k → IsRefused {A = X} (Page k) (Err fault)
  columns_refused_only X count k fault counted fails all r = by (refuses_here count k counted r)
    where
      by : RefusesParts body footer told (pos count) k → IsRefused {A = X} (Page k) (Err fault)
      by (inl f) = same_refused (AnyColumns × Bor (List ℕ)) X k fault (fails k f)
      by (inr (is, (cells, places, rest, b), none)) =
          let y : (List (List Cell) × List Chunk) × List ℕ = ((cells, places), rest) in
          err_refused X {X = AnyColumns × Bor (List ℕ)} {Y = (List (List Cell) × List Chunk) × List ℕ} (λ r. ((r.0.cells, r.0.places), r.1.now)) fault y (Page k) (all cells places rest b)

  -- where all columns are there, a file has plain pages
  only_plain : (count : ℕ) (pages : Pages) (rows : List Numbered) (lo hi : ℕ) (cells : List (List Cell)) (places : List Chunk) (rest : List ℕ) → AreParts pages body footer rows lo hi
      → BeginsColumns told.pages count 4 told.columns body cells places rest → pages ≡ Plain
  only_plain count pages rows lo hi cells places rest p b =
      let is : told ≡ told_of pages rows lo hi = told_is pages rows lo hi p in
      sym (ap (λ (t : FooterTable). t.pages) is) ∙ plain_pages told.pages count 4 told.columns body cells places rest rows (ap (λ (t : FooterTable). t.columns) is) b

  pub no_parts : (count : ℕ) (cells : List (List Cell)) (places : List Chunk) (rest : List ℕ) → BeginsColumns told.pages count 4 told.columns body cells places rest
      → ((rows : List Numbered) (lo hi : ℕ) → AreParts Plain body footer rows lo hi → ⊥) → HasParts body footer → ⊥
  no_parts count cells places rest b none (pages, rows, lo, hi, p) =
      none rows lo hi (subst (λ k. AreParts k body footer rows lo hi) (only_plain count pages rows lo hi cells places rest p b) p)

  -- where all columns are there, and the whole is the file of no table
  pub last_refused : (count : ℕ) → told.rows ≡ pos count → HasAll told.pages told.columns count body → (HasParts body footer → ⊥) → IsPartsFault body footer told (Page (length told.columns))
  last_refused count counted all none = subst (λ z. RefusesParts body footer told z (length told.columns)) (sym counted) (inr (refl, all, none))

  pub last_only : (X : Type 0) (count k : ℕ) → told.rows ≡ pos count → ((k : ℕ) → FailsAt told.pages told.columns count body k → ⊥) → RefusesParts body footer told told.rows k
      → IsRefused {A = X} (Page k) (Err (Page (length told.columns)))
  last_only X count k counted never r = by (refuses_here count k counted r)
    where
      by : RefusesParts body footer told (pos count) k → IsRefused {A = X} (Page k) (Err (Page (length told.columns)))
      by (inl f) = absurd (never k f)
      by (inr (is, all, none)) = ap (λ n. Err (Page n)) (sym is)

  pub found_only : (X : Type 0) (count k : ℕ) (result : Result X FileFault) → told.rows ≡ pos count → ((k : ℕ) → FailsAt told.pages told.columns count body k → ⊥) → HasParts body footer
      → RefusesParts body footer told told.rows k → IsRefused {A = X} (Page k) result
  found_only X count k result counted never has r = by (refuses_here count k counted r)
    where
      by : RefusesParts body footer told (pos count) k → IsRefused {A = X} (Page k) result
      by (inl f) = absurd (never k f)
      by (inr (is, all, none)) = absurd (none has)
