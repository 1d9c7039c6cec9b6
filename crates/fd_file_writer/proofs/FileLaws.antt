-- Chunks, one behind the other, and the places in which they stand.
use Rattle.std.proofs.Common.{◌≡◌, Bool, true, false, ℕ, suc, ◌+◌, ◌-◌, ◌<◌, ◌≤◌, ◌^◌, List, [], ◌∷◌, ◌++◌, length, take, map, refl, sym, ap, ◌∙◌, subst, append_assoc, arith, length-append, ◌==◌}
use Rattle.std.specs.Prelude.{All, IsUtf8, IsSorted}
use Rattle.std.specs.List.{AllZip}
use Rattle.std.proofs.lemmas.List.{append-nil}
use Rattle.std.proofs.lemmas.List.Elements.{All-cons, All-nil}
use Rattle.fd_kinds.specs.declared.row.Numbered.{Numbered}
use Rattle.fd_column.specs.Cells.{Column, columns_of, column_name, column_names}
use Rattle.fd_footer.specs.declared.footer.Pages.{Pages}
use Rattle.fd_footer.specs.declared.footer.Pages.TheVariants.{Plain}
use Rattle.fd_footer.specs.declared.footer.Chunk.{Chunk}
use Rattle.fd_footer.specs.declared.footer.Footer.{Footer}
use Rattle.fd_footer.specs.Tables.{total_size}
use Rattle.fd_footer.specs.Footers.{IsPlaced, IsWritable, footer_bytes}
use Rattle.fd_table_file.specs.Columns.{file_column, column_at, column_count, cells_of, HasText, ColumnsHavePlaces}
use Rattle.fd_file_writer.proofs.TextLaws.{column_has_texts, name_is_text}
use Rattle.fd_column.specs.Stacks.{AreShort}
use Rattle.fd_column.specs.Texts.{AreTexts}
use Rattle.fd_table_file.specs.Chunks.{Pieces, piece_bytes, plain_pieces, IsChunkOf, AddsPagesOf}
use Rattle.fd_table_file.specs.Files.{magic, chunk_at, plain_chunk_at, framed, places_from, chunk_bytes, footer_at, footer_of, HasChunks, IsSmall, IsFileOf}
use Rattle.fd_kinds.specs.Parts.{IsWithin}
use Rattle.fd_column.specs.RowNumbers.{numbered_cmp}
use Rattle.fd_file_writer.proofs.CountLaws.{columns_few}
use Rattle.fd_file_writer.proofs.SizeLaws.{rows_few}
use Rattle.std.specs.Int.{w32, to_le_bytes}

all_zip_more : (pages : Pages) (rows : List Numbered) (cs : List Column) (chunks : List Pieces) (c : Column) (chunk : Pieces) → AllZip (IsChunkOf pages rows) cs chunks → IsChunkOf pages rows c chunk → AllZip (IsChunkOf pages rows) (cs ++ c ∷ []) (chunks ++ chunk ∷ [])
all_zip_more pages rows [] [] c chunk h is = (is, tt)
all_zip_more pages rows [] (x ∷ xs) c chunk h is = absurd h
all_zip_more pages rows (y ∷ ys) [] c chunk h is = absurd h
all_zip_more pages rows (y ∷ ys) (x ∷ xs) c chunk h is = (h.0, all_zip_more pages rows ys xs c chunk h.1 is)

bytes_more : (chunks : List Pieces) (chunk : Pieces) → chunk_bytes (chunks ++ chunk ∷ []) ≡ chunk_bytes chunks ++ piece_bytes chunk
bytes_more [] chunk = append-nil (piece_bytes chunk)
bytes_more (x ∷ xs) chunk = ap (λ bytes. piece_bytes x ++ bytes) (bytes_more xs chunk) ∙ sym (append_assoc (piece_bytes x) (chunk_bytes xs) (piece_bytes chunk))

places_more : (at : ℕ) (chunks : List Pieces) (chunk : Pieces) → places_from at (chunks ++ chunk ∷ []) ≡ places_from at chunks ++ chunk_at (at + length (chunk_bytes chunks)) chunk ∷ []
places_more at [] chunk =
    let e : at ≡ at + 0 = omega arith in
    ap (λ n. chunk_at n chunk ∷ []) e
places_more at (x ∷ xs) chunk =
    let e : at + length (piece_bytes x) + length (chunk_bytes xs) ≡ at + length (piece_bytes x ++ chunk_bytes xs) = omega (arith, length-append (piece_bytes x) (chunk_bytes xs)) in
    ap (λ ks. chunk_at at x ∷ ks) (places_more (at + length (piece_bytes x)) xs chunk ∙ ap (λ n. places_from (at + length (piece_bytes x)) xs ++ chunk_at n chunk ∷ []) e)

-- what is known of the places of chunks
abbrev pub HasCount : Type 0
HasCount = (at : ℕ) (chunks : List Pieces) → length (places_from at chunks) ≡ length chunks

abbrev pub HasFit : Type 0
HasFit = (at : ℕ) (chunks : List Pieces) → at + length (chunk_bytes chunks) < 2 ^ 63 → All IsPlaced (places_from at chunks)

abbrev pub HasSizes : Type 0
HasSizes = (at : ℕ) (chunks : List Pieces) → total_size (places_from at chunks) ≡ length (chunk_bytes chunks)

abbrev pub ArePlain : Type 0
ArePlain = (at : ℕ) (chunk : Pieces) → chunk.dictionary ≡ [] → chunk_at at chunk ≡ plain_chunk_at at (length (piece_bytes chunk))

-- the chunk of one more column
one_chunk_more : ArePlain → (rows : List Numbered) (cs : List Column) (c : Column) (old new : List ℕ) (places : List Chunk)
    → IsUtf8 (column_name c) → All (HasText (file_column c)) (cells_of c rows) → HasChunks Plain rows cs old places → AddsPagesOf rows c old new
    → HasChunks Plain rows (cs ++ c ∷ []) new (places ++ plain_chunk_at (length old) (length new - length old) ∷ [])
one_chunk_more plain rows cs c old new places name texts so_far adds =
    let chunk : Pieces = plain_pieces adds.bytes in
    let o : length old ≡ length magic + length (chunk_bytes so_far.chunks) = ap length so_far.whole ∙ length-append magic (chunk_bytes so_far.chunks) in
    let n : length new ≡ length old + length adds.bytes = ap length adds.whole ∙ length-append old adds.bytes in
    let size : length adds.bytes ≡ length new - length old = omega (arith, n) in
    record {
      chunks = so_far.chunks ++ chunk ∷ [];
      spelled = all_zip_more Plain rows cs so_far.chunks c chunk so_far.spelled (record { name = name; texts = texts; chunk = record { before = refl; data_pages = adds.are } });
      whole = adds.whole ∙ ap (λ bytes. bytes ++ adds.bytes) so_far.whole ∙ append_assoc magic (chunk_bytes so_far.chunks) adds.bytes ∙ ap (λ bytes. magic ++ bytes) (sym (bytes_more so_far.chunks chunk));
      placed = ap (λ ks. ks ++ plain_chunk_at (length old) (length new - length old) ∷ []) so_far.placed
          ∙ ap (λ n. places_from (length magic) so_far.chunks ++ plain_chunk_at n (length new - length old) ∷ []) o
          ∙ ap (λ s. places_from (length magic) so_far.chunks ++ plain_chunk_at (length magic + length (chunk_bytes so_far.chunks)) s ∷ []) (sym size)
          ∙ ap (λ k. places_from (length magic) so_far.chunks ++ k ∷ []) (sym (plain (length magic + length (chunk_bytes so_far.chunks)) chunk refl))
          ∙ sym (places_more (length magic) so_far.chunks chunk);
    }

pub pages_longer : (rows : List Numbered) (c : Column) (old new : List ℕ) → AddsPagesOf rows c old new → length old ≤ length new
pages_longer rows c old new adds =
    let n : length new ≡ length old + length adds.bytes = ap length adds.whole ∙ length-append old adds.bytes in
    omega (arith, n)

pub chunks_none : (pages : Pages) (rows : List Numbered) (out : List ℕ) → out ≡ magic → HasChunks pages rows (take 0 (columns_of rows)) out []
chunks_none pages rows out is = record { chunks = []; spelled = tt; whole = is; placed = refl }

pub chunks_more : ColumnsHavePlaces → ArePlain → (rows : List Numbered) (k : ℕ) (old new : List ℕ) (places : List Chunk) (place : Chunk) → k < column_count rows → AreTexts rows → All (λ n. AreShort n.row.stack) rows → All IsUtf8 (column_names rows)
    → HasChunks Plain rows (take k (columns_of rows)) old places → AddsPagesOf rows (column_at rows k) old new → place ≡ plain_chunk_at (length old) (length new - length old)
    → HasChunks Plain rows (take (k + 1) (columns_of rows)) new (places ++ place ∷ [])
chunks_more by_place plain rows k old new places place lt texts short names so_far adds is =
    subst (λ (cs : List Column). HasChunks Plain rows cs new (places ++ place ∷ [])) (sym (by_place.more rows k lt))
    (subst (λ (p : Chunk). HasChunks Plain rows (take k (columns_of rows) ++ column_at rows k ∷ []) new (places ++ p ∷ [])) (sym is)
    (one_chunk_more plain rows (take k (columns_of rows)) (column_at rows k) old new places (name_is_text by_place rows k lt names) (column_has_texts (column_at rows k) rows texts short) so_far adds))

pub chunks_all : ColumnsHavePlaces → (pages : Pages) (rows : List Numbered) (k : ℕ) (out : List ℕ) (places : List Chunk) → column_count rows ≤ k → HasChunks pages rows (take k (columns_of rows)) out places → HasChunks pages rows (columns_of rows) out places
chunks_all by_place pages rows k out places le has = subst (λ (cs : List Column). HasChunks pages rows cs out places) (by_place.all rows k le) has

chunks_length : (pages : Pages) (rows : List Numbered) (cs : List Column) (chunks : List Pieces) → AllZip (IsChunkOf pages rows) cs chunks → length chunks ≡ length cs
chunks_length pages rows [] [] h = refl
chunks_length pages rows [] (x ∷ xs) h = absurd h
chunks_length pages rows (y ∷ ys) [] h = absurd h
chunks_length pages rows (y ∷ ys) (x ∷ xs) h = ap suc (chunks_length pages rows ys xs h.1)

columns_length : (cs : List Column) → length (map file_column cs) ≡ length cs
columns_length [] = refl
columns_length (c ∷ cs) = ap suc (columns_length cs)

-- the parts of a file, put together
framed_whole : (body footer out bytes : List ℕ) → out ≡ magic ++ body → bytes ≡ out ++ (footer ++ (to_le_bytes w32 (length footer) ++ magic)) → bytes ≡ framed body footer
framed_whole body footer out bytes o is =
    is ∙ ap (λ xs. xs ++ (footer ++ (to_le_bytes w32 (length footer) ++ magic))) o ∙ append_assoc magic body (footer ++ (to_le_bytes w32 (length footer) ++ magic))

fits_with : HasCount → HasFit → HasSizes → (pages : Pages) (rows : List Numbered) (lo hi : ℕ) (chunks : List Pieces) (none : Bool) → (length rows == 0) ≡ none → lo ≤ hi → hi < 2 ^ 63
    → length (map file_column (columns_of rows)) < 2 ^ 31 → length rows < 2 ^ 63 → AllZip (IsChunkOf pages rows) (columns_of rows) chunks
    → length magic + length (chunk_bytes chunks) < 2 ^ 63 → IsWritable (footer_of pages rows lo hi chunks)
fits_with counted fit sizes pages rows lo hi chunks true e range below few short are small = record {
  columns = few;
  chunks = rw e refl;
  rows = short;
  lo = omega (arith, range, below);
  hi = omega (arith, below);
  places = rw e (All-nil IsPlaced);
  sizes = rw e (omega arith);
}
fits_with counted fit sizes pages rows lo hi chunks false e range below few short are small = record {
  columns = few;
  chunks = rw e (counted (length magic) chunks ∙ chunks_length pages rows (columns_of rows) chunks are ∙ sym (columns_length (columns_of rows)));
  rows = short;
  lo = omega (arith, range, below);
  hi = omega (arith, below);
  places = rw e (fit (length magic) chunks small);
  sizes = rw e (omega (arith, sizes (length magic) chunks, small));
}

-- the numbers of a file's footer fit their fields
fits_footer : HasCount → HasFit → HasSizes → (pages : Pages) (rows : List Numbered) (lo hi : ℕ) (chunks : List Pieces) → lo ≤ hi → hi < 2 ^ 63
    → length (map file_column (columns_of rows)) < 2 ^ 31 → length rows < 2 ^ 63 → AllZip (IsChunkOf pages rows) (columns_of rows) chunks
    → length magic + length (chunk_bytes chunks) < 2 ^ 63 → IsWritable (footer_of pages rows lo hi chunks)
fits_footer counted fit sizes pages rows lo hi chunks range below few short are small = fits_with counted fit sizes pages rows lo hi chunks (length rows == 0) refl range below few short are small

-- the chunks of all columns stand in these places, and this is their footer
pub record HasFooter (pages : Pages) (rows : List Numbered) (lo hi : ℕ) (out : List ℕ) (places : List Chunk) (f : Footer) : Type 0 where
  pub chunked : HasChunks pages rows (columns_of rows) out places
  pub is : f ≡ footer_at pages rows lo hi places

footer_same : (pages : Pages) (rows : List Numbered) (lo hi : ℕ) (out : List ℕ) (places : List Chunk) (f : Footer) → (h : HasFooter pages rows lo hi out places f) → f ≡ footer_of pages rows lo hi h.chunked.chunks
footer_same pages rows lo hi out places f h = h.is ∙ ap (λ ks. footer_at pages rows lo hi ks) h.chunked.placed

pub footer_writable : HasCount → HasFit → HasSizes → (pages : Pages) (rows : List Numbered) (lo hi : ℕ) (out : List ℕ) (places : List Chunk) (f : Footer) → lo ≤ hi → hi < 2 ^ 63 → IsSmall rows → length out < 2 ^ 63
    → HasFooter pages rows lo hi out places f → IsWritable f
footer_writable counted fit sizes pages rows lo hi out places f range below small short h =
    let len : length out ≡ length magic + length (chunk_bytes h.chunked.chunks) = ap length h.chunked.whole ∙ length-append magic (chunk_bytes h.chunked.chunks) in
    subst IsWritable (sym (footer_same pages rows lo hi out places f h))
    (fits_footer counted fit sizes pages rows lo hi h.chunked.chunks range below (columns_few rows small) (omega (arith, small, rows_few rows)) h.chunked.spelled (omega (arith, short, len)))

-- the file of a table, from its chunks and its footer
pub file_is : (pages : Pages) (rows : List Numbered) (lo hi : ℕ) (out : List ℕ) (places : List Chunk) (f : Footer) (bytes : List ℕ) → lo ≤ hi → hi < 2 ^ 63 → All (IsWithin lo hi) rows → IsSorted numbered_cmp rows
    → HasFooter pages rows lo hi out places f → IsWritable f → length (footer_bytes f) < 2 ^ 32
    → bytes ≡ out ++ (footer_bytes f ++ (to_le_bytes w32 (length (footer_bytes f)) ++ magic)) → IsFileOf pages bytes rows lo hi
file_is pages rows lo hi out places f bytes range below within sorted h writable short whole =
    let same : f ≡ footer_of pages rows lo hi h.chunked.chunks = footer_same pages rows lo hi out places f h in
    record {
      range = range;
      below = below;
      within = within;
      sorted = sorted;
      chunks = h.chunked.chunks;
      spelled = h.chunked.spelled;
      writable = subst IsWritable same writable;
      short = subst (λ (g : Footer). length (footer_bytes g) < 2 ^ 32) same short;
      whole = subst (λ (g : Footer). bytes ≡ framed (chunk_bytes h.chunked.chunks) (footer_bytes g)) same
          (framed_whole (chunk_bytes h.chunked.chunks) (footer_bytes f) out bytes h.chunked.whole whole);
    }
