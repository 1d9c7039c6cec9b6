-- A table has one file for each range and kind of pages, and no bytes are the files of two tables, ranges or kinds.
use Rattle.std.proofs.Common.{◌≡◌, ℕ, ◌<◌, ◌^◌, ◌==◌, List, length, refl, sym, ap, ◌∙◌, subst, arith}
use Rattle.std.specs.List.{AllZip}
use Rattle.fd_kinds.specs.declared.row.Numbered.{Numbered}
use Rattle.fd_column.specs.Cells.{columns_of}
use Rattle.fd_thrift.specs.Format.{Spells}
use Rattle.fd_footer.specs.declared.footer.Footer.{Footer}
use Rattle.fd_footer.specs.declared.footer.Pages.{Pages}
use Rattle.fd_footer.specs.Footers.{footer_value, footer_bytes, IsWritable}
use Rattle.fd_table_file.specs.Chunks.{Pieces, IsChunkOf}
use Rattle.fd_table_file.specs.Files.{magic, framed, places_from, chunk_bytes, footer_of, IsFileOf}
use Rattle.fd_table_file.proofs.OneDataPages.{OneRuns, OnePage}
use Rattle.fd_table_file.proofs.OneChunk.{OneDictionary, OneCodePage, OneCoding, one_pieces, pieces_tell, pieces_fit, pieces_once}
use Rattle.fd_table_file.proofs.OneTable.{one_list, rows_by}
use Rattle.fd_table_file.proofs.FrameLaws.{framed_once}

-- ---- one file

pub one_file : OneRuns → OneCoding → (pages : Pages) (rows : List Numbered) (lo hi : ℕ) (a b : List ℕ) → IsFileOf pages a rows lo hi → IsFileOf pages b rows lo hi → a ≡ b
one_file one_runs one_coding pages rows lo hi a b p q =
    p.whole
    ∙ ap (λ (chunks : List Pieces). framed (chunk_bytes chunks) (footer_bytes (footer_of pages rows lo hi chunks)))
    (one_list (IsChunkOf pages rows) (one_pieces one_runs one_coding pages rows) (columns_of rows) p.chunks q.chunks p.spelled q.spelled)
    ∙ sym q.whole

-- ---- one table

-- what is known of footers
abbrev pub OneFooter : Type 0
OneFooter = (bytes : List ℕ) (f g : Footer) → IsWritable f → IsWritable g → Spells bytes (footer_value f) → Spells bytes (footer_value g) → f ≡ g

abbrev pub Spelled : Type 0
Spelled = (f : Footer) → IsWritable f → length (footer_bytes f) < 2 ^ 64 → Spells (footer_bytes f) (footer_value f)

-- a file has one body and one footer
same_file : OneFooter → Spelled → (bytes body more : List ℕ) (f g : Footer) → IsWritable f → IsWritable g → length (footer_bytes f) < 2 ^ 32 → length (footer_bytes g) < 2 ^ 32
    → bytes ≡ framed body (footer_bytes f) → bytes ≡ framed more (footer_bytes g) → (body ≡ more) × (f ≡ g)
same_file one_footer spelled bytes body more f g writable writable' short short' whole whole' =
    let parts = framed_once body more (footer_bytes f) (footer_bytes g) short short' (sym whole ∙ whole') in (
      parts.0,
      one_footer (footer_bytes f) f g writable writable' (spelled f writable (omega (arith, short)))
          (subst (λ (xs : List ℕ). Spells xs (footer_value g)) (sym parts.1) (spelled g writable' (omega (arith, short')))),
    )

-- of one kind of pages no bytes are the files of two tables
one_table_of : OnePage → OneDictionary → OneCodePage → (pages : Pages) (rows others : List Numbered) (lo hi low high : ℕ) (xs ys : List Pieces)
    → footer_of pages rows lo hi xs ≡ footer_of pages others low high ys → chunk_bytes xs ≡ chunk_bytes ys
    → AllZip (IsChunkOf pages rows) (columns_of rows) xs → AllZip (IsChunkOf pages others) (columns_of others) ys → rows ≡ others
one_table_of one_page one_dictionary one_code_page pages rows others lo hi low high xs ys same bytes p q =
    rows_by (IsChunkOf pages) (pieces_fit pages) (pieces_tell one_page one_dictionary one_code_page pages) (places_from (length magic)) chunk_bytes (pieces_once (length magic)) rows others xs ys (length rows == 0) refl
    (record { counts = ap (λ (h : Footer). h.rows) same; columns = ap (λ (h : Footer). h.columns) same; places = ap (λ (h : Footer). h.chunks) same })
    bytes p q

pub one_table : OnePage → OneDictionary → OneCodePage → OneFooter → Spelled → (pages kinds : Pages) (bytes : List ℕ) (rows others : List Numbered) (lo hi low high : ℕ) → IsFileOf pages bytes rows lo hi → IsFileOf kinds bytes others low high
    → (pages ≡ kinds) × (rows ≡ others) × (lo ≡ low) × (hi ≡ high)
one_table one_page one_dictionary one_code_page one_footer spelled pages kinds bytes rows others lo hi low high p q =
    let parts = same_file one_footer spelled bytes (chunk_bytes p.chunks) (chunk_bytes q.chunks) (footer_of pages rows lo hi p.chunks) (footer_of kinds others low high q.chunks) p.writable q.writable p.short q.short p.whole q.whole in
    let same : footer_of pages rows lo hi p.chunks ≡ footer_of kinds others low high q.chunks = parts.1 in
    let kind : pages ≡ kinds = ap (λ (h : Footer). h.pages) same in (
      kind,
      one_table_of one_page one_dictionary one_code_page pages rows others lo hi low high p.chunks q.chunks
          (subst (λ (k : Pages). footer_of pages rows lo hi p.chunks ≡ footer_of k others low high q.chunks) (sym kind) same) parts.0 p.spelled
          (subst (λ (k : Pages). AllZip (IsChunkOf k others) (columns_of others) q.chunks) (sym kind) q.spelled),
      ap (λ (h : Footer). h.lo) same,
      ap (λ (h : Footer). h.hi) same,
    )
