-- A list of one word.
use Rattle.std.proofs.Common.{rules, ◌≡◌, ℕ, ◌≤◌, ◌<◌, List, [], ◌∷◌, length, get_or, refl, sym, ◌∙◌, ap, arith, Bool, true, false, IsTrue, nat_eq}
use Rattle.std.specs.Cmp.Lexicographic.{pointwise, same_text}

pointwise-refl : (text : List ℕ) → pointwise nat_eq text text ≡ true
pointwise-refl text = search rules

pub one_word : (words slice : List (List ℕ)) (item word : List ℕ) → slice ≡ words → 1 ≤ length slice → length slice < 2 → item ≡ get_or slice 0 item → word ≡ item → words ≡ word ∷ []
one_word words [] item word same some few is word_is = absurd (omega arith)
one_word words (first ∷ []) item word same some few is word_is = sym same ∙ ap (λ (w : List ℕ). w ∷ []) (sym (word_is ∙ is))
one_word words (first ∷ next ∷ more) item word same some few is word_is = absurd (omega arith)

pub said : (b : Bool) (word text : List ℕ) → b ≡ pointwise nat_eq word text → (IsTrue b → word ≡ text) × (word ≡ text → IsTrue b)
said true word text is = (λ _. same_text word text is, λ _. refl)
said false word text is =
    (λ no. absurd (cc no), λ same. let both : false ≡ true = is ∙ ap (λ (w : List ℕ). pointwise nat_eq w text) same ∙ pointwise-refl text in absurd (cc both))

pub is_only_word : (words : List (List ℕ)) (b : Bool) (word text : List ℕ) → words ≡ word ∷ [] → b ≡ pointwise nat_eq word text → (IsTrue b → words ≡ text ∷ []) × (words ≡ text ∷ [] → IsTrue b)
is_only_word words b word text only is = (
  λ yes. only ∙ ap (λ (w : List ℕ). w ∷ []) ((said b word text is).0 yes),
  λ same. (said b word text is).1 (let both : word ∷ [] ≡ text ∷ [] = sym only ∙ same in cc both),
)
