-- What holds of each view still holds after one view has changed.
use Rattle.std.proofs.Common.{◌≡◌, ◌≢◌, ◌⊎◌, ℕ, zero, suc, ◌<◌, List, [], ◌∷◌, ◌++◌, length, set, sym, refl, ap, ◌∙◌, subst, ⊎_elim, inl, inr, arith}
use mathlib.Core.Option.{some, some-injective, some-ne-none}
use lib.ListN.{get_elem?}
use Rattle.atomic_table.proofs.Lists.{at_set}
use Rattle.atomic_table.specs.Table.{rest}
use Rattle.fd_rule.specs.View.{View}
use Rattle.fd_rule.specs.Rule.{Each}

pub at_end : {A : Type 0} (l : List A) (a b : A) (j : ℕ) → get_elem? (l ++ a ∷ []) j ≡ some b → (get_elem? l j ≡ some b) ⊎ ((j ≡ length l) × (a ≡ b))
at_end [] a b zero e = inr (refl, some-injective a b e)
at_end [] a b (suc j) e = absurd (some-ne-none b (sym e))
at_end (x ∷ xs) a b zero e = inl e
at_end (x ∷ xs) a b (suc j) e = ⊎_elim (λ t. inl t) (λ t. let n = t.0 in inr (omega arith, t.1)) (at_end xs a b j e)

pub below : {B : Type 0} (l : List B) (i : ℕ) (a : B) → get_elem? l i ≡ some a → i < length l
below [] i a e = absurd (some-ne-none a (sym e))
below (x ∷ xs) zero a e = omega arith
below (x ∷ xs) (suc i) a e = let h = below xs i a e in omega arith

module _ {A : Type 0} {f : View → A} {vs : List View} (id : ℕ) (w : View) where
  -- another fact holds of the other views, and of the new one
  pub moves : {K L : ℕ → A → Type 0} → L id (f w) → ((j : ℕ) (v : View) → j ≢ id → get_elem? vs j ≡ some v → K j (f v) → L j (f v)) → Each f vs K → Each f (set vs id w) L
  moves {K} {L} mine others all = record {
    known = λ j v at. ⊎_elim (λ (t : (j ≡ id) × (w ≡ v)). subst (λ (x : ℕ × View). L x.0 (f x.1)) (λ i. (sym t.0 i, t.1 i)) mine)
        (λ (t : (j ≢ id) × (get_elem? vs j ≡ some v)). others j v t.0 t.1 (all.known j v t.1)) (at_set vs id j w v at);
  }

  pub stays : {K : ℕ → A → Type 0} → K id (f w) → Each f vs K → Each f (set vs id w) K
  stays {K} mine all = moves {K = K} {L = K} mine (λ j v _ _ k. k) all

  -- this part of the view is as before
  pub same : {K : ℕ → A → Type 0} (v : View) → get_elem? vs id ≡ some v → f w ≡ f v → Each f vs K → Each f (set vs id w) K
  same {K} v at e all = stays {K = K} (subst (K id) (sym e) (all.known id v at)) all

pub held_first : {S : Type 0} {l : List (ℕ × S)} {x : ℕ × S} {xs : List (ℕ × S)} → l ≡ x ∷ xs → l ≡ x ∷ rest l
held_first {S} {l} {x} {xs} e = e ∙ ap (λ (ys : List (ℕ × S)). x ∷ ys) (sym (ap rest e))

pub grows : {A : Type 0} {f : View → A} {vs : List View} {K : ℕ → A → Type 0} (w : View) → K (length vs) (f w) → Each f vs K → Each f (vs ++ w ∷ []) K
grows {A} {f} {vs} {K} w mine all = record {
  known = λ j v at. ⊎_elim (λ e. all.known j v e) (λ (t : (j ≡ length vs) × (w ≡ v)). subst (λ (x : ℕ × View). K x.0 (f x.1)) (λ i. (sym t.0 i, t.1 i)) mine) (at_end vs w v j at);
}

pub alike : {A : Type 0} {f : View → A} {vs : List View} {K L : ℕ → A → Type 0} → ((j : ℕ) (x : A) → K j x → L j x) → Each f vs K → Each f vs L
alike {A} {f} more all = record { known = λ j v at. more j (f v) (all.known j v at) }

pub alone : {A : Type 0} {f : View → A} {K : ℕ → A → Type 0} (w : View) → K 0 (f w) → Each f (w ∷ []) K
alone {A} {f} {K} w mine = record { known = λ j v at. found j v at }
  where
    found : (j : ℕ) (v : View) → get_elem? (w ∷ []) j ≡ some v → K j (f v)
    found zero v at = subst (λ (x : View). K 0 (f x)) (some-injective w v at) mine
    found (suc j) v at = absurd (some-ne-none v (sym at))
