-- A piece is found by its place, and one more piece leaves the others.
use Rattle.std.proofs.Common.{◌≡◌, ℕ, zero, suc, ◌⊎◌, inl, inr, nat_lt, ◌+◌, ◌<◌, ◌≤◌, Bool, true, false, List, [], ◌∷◌, ◌++◌, map, length, get_or, slice_get, refl, sym, ◌∙◌, ap, subst, arith, length-append}
use Rattle.std.specs.Prelude.{Some, None, slice_range}
use Rattle.std.specs.List.{range_with_len}
use Rattle.std.proofs.lemmas.Grind.{common_steps}
use Rattle.std.proofs.lemmas.Option.{slice_get-get_or, slice_get_past}
use Rattle.std.proofs.lemmas.List.FromFn.{get_or-map-range_with_len, length-map-range_with_len, map-range_with_len_more, fill_by_all}
use Rattle.fd_dictionary.specs.Pieces.{start_of, piece_at, pieces_of, AreCut}

pub piece_got : (bytes ends : List ℕ) (at : ℕ) → at < length ends → slice_get (pieces_of bytes ends) at ≡ Some (piece_at bytes ends at)
piece_got bytes ends at h =
    slice_get-get_or (pieces_of bytes ends) at [] (rw (length-map-range_with_len (piece_at bytes ends) 0 (length ends)) h)
    ∙ ap Some (get_or-map-range_with_len (piece_at bytes ends) 0 (length ends) at at [] h (omega arith))

pub length_pieces : (bytes ends : List ℕ) → length (pieces_of bytes ends) ≡ length ends
length_pieces bytes ends = length-map-range_with_len (piece_at bytes ends) 0 (length ends)

pub no_piece : (bytes ends : List ℕ) (at : ℕ) → length ends ≤ at → slice_get (pieces_of bytes ends) at ≡ None
no_piece bytes ends at h = slice_get_past (pieces_of bytes ends) at (rw (length_pieces bytes ends) h)

start_of_push : (ends : List ℕ) (e at : ℕ) → at ≤ length ends → start_of (ends ++ e ∷ []) at ≡ start_of ends at
start_of_push ends e zero h = refl
start_of_push ends e (suc at) h = grind (arith, common_steps)

start_of_last : (ends : List ℕ) (e : ℕ) → start_of (ends ++ e ∷ []) (length (ends ++ e ∷ [])) ≡ e
start_of_last ends e = grind (arith, common_steps)

end_push : (ends : List ℕ) (e at : ℕ) → at < length ends → get_or (ends ++ e ∷ []) at 0 ≡ get_or ends at 0
end_push ends e at h = grind (arith, common_steps)

end_last : (ends : List ℕ) (e : ℕ) → get_or (ends ++ e ∷ []) (length ends) 0 ≡ e
end_last ends e = grind (arith, common_steps)

-- the bytes between two places of the first list
range_left : (xs ys : List ℕ) (i j : ℕ) → i ≤ j → j ≤ length xs → slice_range (xs ++ ys) i j ≡ slice_range xs i j
range_left xs ys i j h k = grind (arith, common_steps)

range_right : (xs ys : List ℕ) → slice_range (xs ++ ys) (length xs) (length (xs ++ ys)) ≡ ys
range_right xs ys = grind (arith, common_steps)

below_or_last : (ends : List ℕ) (e at : ℕ) → at < length (ends ++ e ∷ []) → (at < length ends) ⊎ (at ≡ length ends)
below_or_last ends e at h =
    let shorter : at < length ends + 1 = subst (λ n. at < n) (length-append ends (e ∷ [])) h in
    by (nat_lt at (length ends)) refl shorter
  where
    by : (b : Bool) → nat_lt at (length ends) ≡ b → at < length ends + 1 → (at < length ends) ⊎ (at ≡ length ends)
    by true t l = inl (grind arith)
    by false t l = inr (grind arith)

pub cut_push : (bytes ends piece : List ℕ) (e : ℕ) → e ≡ length (bytes ++ piece) → AreCut bytes ends → AreCut (bytes ++ piece) (ends ++ e ∷ [])
cut_push bytes ends piece e is c = record {
  rising = λ at h. rises at (below_or_last ends e at h);
  inside = λ at h. ends_inside at (below_or_last ends e at h);
  whole = start_of_last ends e ∙ is;
}
  where
    longer : length bytes ≤ e
    longer = rw is (rw (length-append bytes piece) (omega arith))

    rises : (at : ℕ) → (at < length ends) ⊎ (at ≡ length ends) → start_of (ends ++ e ∷ []) at ≤ get_or (ends ++ e ∷ []) at 0
    rises at (inl h) = rw (start_of_push ends e at (omega arith), end_push ends e at h) (c.rising at h)
    rises at (inr h) = rw (h, start_of_push ends e (length ends) (omega arith), end_last ends e, c.whole) longer

    ends_inside : (at : ℕ) → (at < length ends) ⊎ (at ≡ length ends) → get_or (ends ++ e ∷ []) at 0 ≤ length (bytes ++ piece)
    ends_inside at (inl h) =
        let old : get_or ends at 0 ≤ length bytes = c.inside at h in
        rw (end_push ends e at h, sym is) (omega (arith, old, longer))
    ends_inside at (inr h) = rw (h, end_last ends e, is) (omega arith)

pub pieces_push : (bytes ends piece : List ℕ) (e : ℕ) → e ≡ length (bytes ++ piece) → AreCut bytes ends → pieces_of (bytes ++ piece) (ends ++ e ∷ []) ≡ pieces_of bytes ends ++ piece ∷ []
pieces_push bytes ends piece e is c =
    ap (λ n. map (piece_at (bytes ++ piece) (ends ++ e ∷ [])) (range_with_len 0 n)) (length-append ends (e ∷ []))
    ∙ map-range_with_len_more (piece_at (bytes ++ piece) (ends ++ e ∷ [])) 0 (length ends) (length ends) (omega arith)
    ∙ (λ i. olds i ++ last i ∷ [])
  where
    same : (at : ℕ) → at < length ends → piece_at (bytes ++ piece) (ends ++ e ∷ []) at ≡ piece_at bytes ends at
    same at h =
        rw (start_of_push ends e at (omega arith), end_push ends e at h) (range_left bytes piece (start_of ends at) (get_or ends at 0) (c.rising at h) (c.inside at h))

    last : piece_at (bytes ++ piece) (ends ++ e ∷ []) (length ends) ≡ piece
    last = rw (start_of_push ends e (length ends) (omega arith), end_last ends e, c.whole, is) (range_right bytes piece)

    olds : map (piece_at (bytes ++ piece) (ends ++ e ∷ [])) (range_with_len 0 (length ends)) ≡ pieces_of bytes ends
    olds =
        fill_by_all (piece_at bytes ends) (map (piece_at (bytes ++ piece) (ends ++ e ∷ [])) (range_with_len 0 (length ends))) (length ends) [] (length-map-range_with_len (piece_at (bytes ++ piece) (ends ++ e ∷ [])) 0 (length ends)) (λ at h. get_or-map-range_with_len (piece_at (bytes ++ piece) (ends ++ e ∷ [])) 0 (length ends) at at [] h (omega arith) ∙ same at h)
