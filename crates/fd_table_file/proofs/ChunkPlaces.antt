-- Where chunks stand that follow each other.
use Rattle.std.proofs.Common.{◌≡◌, ℕ, suc, ◌+◌, ◌<◌, ◌^◌, List, [], ◌∷◌, ◌++◌, length, refl, sym, ap, ◌∙◌, arith, length-append}
use Rattle.std.specs.Prelude.{All}
use Rattle.std.proofs.lemmas.List.Elements.{All-cons, All-nil}
use Rattle.fd_footer.specs.declared.footer.Chunk.{Chunk}
use Rattle.fd_footer.specs.Tables.{total_size}
use Rattle.fd_footer.specs.Footers.{IsPlaced}
use Rattle.fd_table_file.specs.Chunks.{Pieces, piece_bytes}
use Rattle.fd_table_file.specs.Files.{chunk_at, plain_chunk_at, places_from, chunk_bytes}

pub total_is : (at : ℕ) (chunks : List Pieces) → total_size (places_from at chunks) ≡ length (chunk_bytes chunks)
total_is at [] = refl
total_is at (x ∷ xs) = ap (λ n. length (piece_bytes x) + n) (total_is (at + length (piece_bytes x)) xs) ∙ sym (length-append (piece_bytes x) (chunk_bytes xs))

pub placed_all : (at : ℕ) (chunks : List Pieces) → at + length (chunk_bytes chunks) < 2 ^ 63 → All IsPlaced (places_from at chunks)
placed_all at [] few = All-nil IsPlaced
placed_all at (x ∷ xs) few =
    let n : length (piece_bytes x ++ chunk_bytes xs) ≡ length (piece_bytes x) + length (chunk_bytes xs) = length-append (piece_bytes x) (chunk_bytes xs) in
    let m : length (piece_bytes x) ≡ length x.dictionary + length x.pages = length-append x.dictionary x.pages in
    All-cons IsPlaced _ _ (record { place = omega (arith, n, few); data_page = omega (arith, n, m, few) }) (placed_all (at + length (piece_bytes x)) xs (omega (arith, n, few)))

pub places_length : (at : ℕ) (chunks : List Pieces) → length (places_from at chunks) ≡ length chunks
places_length at [] = refl
places_length at (x ∷ xs) = ap suc (places_length (at + length (piece_bytes x)) xs)

abbrev placed_with : ℕ → ℕ → ℕ → Chunk
placed_with place size data_page = record { place = place; size = size; data_page = data_page }

-- the first data page of a chunk without a dictionary stands where the chunk does
pub plain_placed : (at : ℕ) (x : Pieces) → x.dictionary ≡ [] → chunk_at at x ≡ plain_chunk_at at (length (piece_bytes x))
plain_placed at x none =
    let e : at + length x.dictionary ≡ at = omega (arith, ap length none) in
    ap (λ (n : ℕ). placed_with at (length (piece_bytes x)) n) e
