-- What a loop over texts has borrowed.
use Rattle.std.proofs.Common.{◌≡◌, ℕ, zero, suc, ◌+◌, ◌<◌, ◌≤◌, List, [], ◌∷◌, ◌++◌, length, get_or, take, map, All, IsUtf8, Bor, arith, refl, sym, ap, ap₂, subst, ◌∙◌, take_all, take-suc, add-one}
use Rattle.std.proofs.lemmas.List.{map-append}
use Rattle.std.proofs.lemmas.List.Elements.{All-append}

abbrev pub texts_of : List (Bor (List ℕ)) → List (List ℕ)
texts_of = map (λ w. w.now)

-- the first i texts
pub record Borrows (texts : List (List ℕ)) (i : ℕ) (words : List (Bor (List ℕ))) : Type 0 where
  pub same : texts_of words ≡ take i texts
  pub utf8 : All IsUtf8 (texts_of words)

pub borrows_none : (texts : List (List ℕ)) → Borrows texts 0 []
borrows_none texts = record { same = refl; utf8 = λ k d lt. absurd (omega (arith, lt)) }

only_one : (t : List ℕ) → IsUtf8 t → All IsUtf8 (t ∷ [])
only_one t utf8 zero d lt = utf8
only_one t utf8 (suc k) d lt = absurd (omega (arith, lt))

pub borrows_more : (texts : List (List ℕ)) (i : ℕ) (words : List (Bor (List ℕ))) (w : Bor (List ℕ)) (t : List ℕ)
    → Borrows texts i words → i < length texts → t ≡ get_or texts i t → w.now ≡ t → IsUtf8 w.now → Borrows texts (i + 1) (words ++ w ∷ [])
borrows_more texts i words w t b lt at is utf8 = record {
  same =
      map-append (λ w. w.now) words (w ∷ [])
      ∙ ap₂ (λ (xs : List (List ℕ)) (x : List ℕ). xs ++ x ∷ []) b.same (is ∙ at)
      ∙ sym (take-suc texts i t lt)
      ∙ ap (λ (k : ℕ). take k texts) (sym (add-one i));
  utf8 =
      subst (All IsUtf8) (sym (map-append (λ w. w.now) words (w ∷ [])))
      (All-append IsUtf8 (texts_of words) (w.now ∷ []) b.utf8 (only_one w.now utf8));
}

pub borrows_all : (texts : List (List ℕ)) (i : ℕ) (words : List (Bor (List ℕ))) → Borrows texts i words → length texts ≤ i → texts_of words ≡ texts
borrows_all texts i words b done = b.same ∙ take_all i texts done

pub borrows_utf8 : (texts : List (List ℕ)) (i : ℕ) (words : List (Bor (List ℕ))) → Borrows texts i words → All IsUtf8 (texts_of words)
borrows_utf8 texts i words b = b.utf8

pub ruleset borrow_steps = (borrows_none, borrows_more, borrows_all, borrows_utf8)
