-- One more chunk of a list of them.
use Rattle.std.proofs.Common.{◌≡◌, ℕ, ◌+◌, ◌<◌, List, [], ◌∷◌, ◌++◌, length, map, drop, get_or, refl, sym, ap, ◌∙◌, append_assoc, add-one, drop-cons}
use Rattle.std.proofs.lemmas.List.{map-append}
use Rattle.fd_thrift.specs.declared.tree.Tree.{Tree}
use Rattle.fd_thrift.specs.Values.{Value}
use Rattle.fd_thrift.specs.View.{view}
use Rattle.fd_footer.specs.declared.footer.Column.{Column}
use Rattle.fd_footer.specs.declared.footer.Chunk.{Chunk}
use Rattle.fd_footer.specs.declared.footer.Pages.{Pages}
use Rattle.fd_footer.specs.Tables.{chunk_value, chunk_values, total_size}

pub next_chunk : (pages : Pages) (rows : ℕ) (cs : List Column) (ks : List Chunk) (i : ℕ) (c : Column) (k : Chunk) → i < length cs → i < length ks → c ≡ get_or cs i c
    → chunk_values pages rows (drop i cs) (drop i ks) ≡ chunk_value pages rows c (get_or ks i k) ∷ chunk_values pages rows (drop (i + 1) cs) (drop (i + 1) ks)
next_chunk pages rows cs ks i c k some more is =
    rw (drop-cons cs i c some, drop-cons ks i k more, ← is, add-one) refl

pub next_size : (ks : List Chunk) (i : ℕ) (k : Chunk) → i < length ks → total_size (drop i ks) ≡ (get_or ks i k).size + total_size (drop (i + 1) ks)
next_size ks i k some = rw (drop-cons ks i k some, add-one) refl

-- one more tree before those that are left
pub one_more : (ts more : List Tree) (t : Tree) (v : Value) (left rest whole : List Value)
    → more ≡ ts ++ t ∷ [] → view t ≡ v → left ≡ v ∷ rest → map view ts ++ left ≡ whole → map view more ++ rest ≡ whole
one_more ts more t v left rest whole pushed seen first so_far =
    let regrouped : map view (ts ++ t ∷ []) ++ rest ≡ map view ts ++ view t ∷ rest = rw (map-append, append_assoc) refl in
    ap (λ xs. map view xs ++ rest) pushed ∙ regrouped ∙ ap (λ x. map view ts ++ x ∷ rest) seen ∙ ap (λ xs. map view ts ++ xs) (sym first) ∙ so_far
