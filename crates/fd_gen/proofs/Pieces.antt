-- Pieces that are added one after another.
use Rattle.std.proofs.Common.{ℕ, ◌≡◌, ◌+◌, List, [], ◌∷◌, ◌++◌, refl, sym, ap, ◌∙◌, arith, append_assoc, flat_map, map}
use Rattle.std.proofs.lemmas.List.{flat_map_more, map-id}
use Rattle.std.specs.List.{range_with_len}
use Rattle.fd_gen.specs.Profile.{functions, name, text_field}
use Rattle.std.proofs.lemmas.List.FromFn.{map-range_with_len_more}

pub added_four : (out a b c d one two three four : List ℕ) → one ≡ out ++ a → two ≡ one ++ b → three ≡ two ++ c → four ≡ three ++ d
    → four ≡ out ++ (((a ++ b) ++ c) ++ d)
added_four out a b c d one two three four e1 e2 e3 e4 =
    e4 ∙ ap (λ x. x ++ d) (e3 ∙ ap (λ x. x ++ c) (e2 ∙ ap (λ x. x ++ b) e1)) ∙ simp append_assoc refl

-- the same, with the pieces put together from the right
pub added_four_right : (out a b c d one two three four : List ℕ) → one ≡ out ++ a → two ≡ one ++ b → three ≡ two ++ c → four ≡ three ++ d
    → four ≡ out ++ (a ++ (b ++ (c ++ d)))
added_four_right out a b c d one two three four e1 e2 e3 e4 =
    added_four out a b c d one two three four e1 e2 e3 e4 ∙ simp append_assoc refl

-- a range, one number further
pub range_more : (n : ℕ) → range_with_len 0 (n + 1) ≡ range_with_len 0 n ++ n ∷ []
range_more n =
    sym (map-id (range_with_len 0 (n + 1))) ∙ map-range_with_len_more (λ x. x) 0 n n (omega arith)
    ∙ ap (λ xs. xs ++ n ∷ []) (map-id (range_with_len 0 n))

-- a loop over a range adds the next field
pub added_next : {X : Type 0} (field : X → List ℕ) (f : ℕ → X) (out before after : List ℕ) (n : ℕ) → before ≡ out ++ flat_map field (map f (range_with_len 0 n))
    → after ≡ before ++ field (f n) → after ≡ out ++ flat_map field (map f (range_with_len 0 (n + 1)))
added_next field f out before after n e more =
    more ∙ ap (λ x. x ++ field (f n)) e ∙ flat_map_more field out (map f (range_with_len 0 n)) (f n)
    ∙ ap (λ xs. out ++ flat_map field xs) (sym (map-range_with_len_more f 0 n n (omega arith)))

pub added_number : (field : ℕ → List ℕ) (out before after : List ℕ) (n : ℕ) → before ≡ out ++ flat_map field (range_with_len 0 n)
    → after ≡ before ++ field n → after ≡ out ++ flat_map field (range_with_len 0 (n + 1))
added_number field out before after n e more =
    more ∙ ap (λ x. x ++ field n) e ∙ flat_map_more field out (range_with_len 0 n) n
    ∙ ap (λ xs. out ++ flat_map field xs) (sym (range_more n))

-- at the end of such a loop
pub functions_added : (field : ℕ → List ℕ) (out now : List ℕ) (n : ℕ) → n ≡ 50 → now ≡ out ++ flat_map field (range_with_len 0 n)
    → now ≡ out ++ flat_map field functions
unfolding functions
functions_added field out now n end added = added ∙ ap (λ m. out ++ flat_map field (range_with_len 0 m)) end

pub names_added : (out now : List ℕ) (n : ℕ) → n ≡ 50 → now ≡ out ++ flat_map text_field (map name (range_with_len 0 n))
    → now ≡ out ++ flat_map text_field (map name functions)
unfolding functions
names_added out now n end added = added ∙ ap (λ m. out ++ flat_map text_field (map name (range_with_len 0 m))) end
