-- What a loop over items has written, and the text at the end.
use Rattle.std.proofs.Common.{◌≡◌, ℕ, suc, ◌+◌, ◌<◌, ◌≤◌, List, [], ◌∷◌, ◌++◌, length, drop, map, get_or, refl, sym, ap, ◌∙◌, append_assoc, add-one}
use Rattle.std.proofs.lemmas.List.{drop_all}
use Rattle.std.proofs.Math.Seq.{drop-cons}
use Rattle.json.specs.Token.{Token, begin_array, end_array}
use Rattle.json.specs.Tree.{items_tokens}
use Rattle.json.specs.Print.{print}
use Rattle.json.specs.Written.{Written}
use Rattle.serde_json.specs.Data.{Data}
use Rattle.serde_json.specs.View.{items_of}
use Rattle.serde_json.specs.Written.{items_outline, compact_text}
use Rattle.serde_json.proofs.Texts.{print-outline}
use Rattle.fd_json.specs.Answers.{list_json}
use Rattle.fd_json.specs.Tokens.{Adds, tokens_of}

abbrev pub rest_of : {A : Type 0} (f : A → Data) → List A → List Token
rest_of f xs = items_tokens (items_outline (items_of (map f xs)))

-- what stands in the writer, with the rest, is the whole
pub record Writing {A : Type 0} (f : A → Data) (xs : List A) (i : ℕ) (old now : Written) : Type 0 where
  pub tokens : now.tokens ++ rest_of f (drop i xs) ≡ old.tokens ++ tokens_of (list_json f xs)
  pub before : now.before ≡ old.before

pub writes_none : {A : Type 0} (f : A → Data) (xs : List A) (old now : Written) → Adds old now (begin_array ∷ []) → Writing f xs 0 old now
writes_none f xs old now a = record {
  tokens = ap (λ ts. ts ++ rest_of f xs) a.tokens ∙ append_assoc old.tokens (begin_array ∷ []) (rest_of f xs);
  before = a.before;
}

pub writes_more : {A : Type 0} (f : A → Data) (xs : List A) (i : ℕ) (old now new : Written) (x : A)
    → Writing f xs i old now → Adds now new (tokens_of (f x)) → i < length xs → x ≡ get_or xs i x → Writing f xs (i + 1) old new
writes_more f xs i old now new x s a h is =
    let next : drop i xs ≡ x ∷ drop (i + 1) xs = drop-cons xs i x h ∙ ap (λ y. y ∷ drop (suc i) xs) (sym is) ∙ rw add-one refl in
    record {
      tokens =
          ap (λ ts. ts ++ rest_of f (drop (i + 1) xs)) a.tokens
          ∙ append_assoc now.tokens (tokens_of (f x)) (rest_of f (drop (i + 1) xs))
          ∙ ap (λ ys. now.tokens ++ rest_of f ys) (sym next)
          ∙ s.tokens;
      before = a.before ∙ s.before;
    }

pub writes_all : {A : Type 0} (f : A → Data) (xs : List A) (i : ℕ) (old now new : Written)
    → Writing f xs i old now → length xs ≤ i → Adds now new (end_array ∷ []) → Adds old new (tokens_of (list_json f xs))
writes_all f xs i old now new s h a = record {
  tokens = a.tokens ∙ ap (λ ys. now.tokens ++ rest_of f ys) (sym (drop_all i xs h)) ∙ s.tokens;
  before = a.before ∙ s.before;
}

-- a writer that was empty
pub printed : (old now : Written) (d : Data) → Adds old now (tokens_of d) → old.tokens ≡ [] → old.before ≡ [] → now.before ++ print now.tokens ≡ compact_text d
printed old now d a none empty =
    ap (λ b. b ++ print now.tokens) (a.before ∙ empty) ∙ ap print (a.tokens ∙ ap (λ ts. ts ++ tokens_of d) none) ∙ print-outline d

pub adds_then : (a b c : Written) (xs ys : List Token) → Adds a b xs → Adds b c ys → Adds a c (xs ++ ys)
adds_then a b c xs ys first second = record {
  tokens = second.tokens ∙ ap (λ ts. ts ++ ys) first.tokens ∙ append_assoc a.tokens xs ys;
  before = second.before ∙ first.before;
}

pub ruleset list_steps = (writes_none, writes_more, writes_all)
