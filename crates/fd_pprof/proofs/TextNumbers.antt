-- Equal texts of a table have one number, and other texts another.
use Rattle.std.proofs.Common.{◌≡◌, ℕ, zero, suc, ◌+◌, ◌-◌, ◌<◌, ◌≤◌, Bool, true, false, cond, List, [], ◌∷◌, length, get_or, drop, drop-cons, refl, sym, ap, ◌∙◌, arith, Option, Some, None}
use Rattle.std.specs.Prelude.{slice_get, is_some}
use Rattle.std.specs.Option.{unwrap_or, option_map}
use Rattle.std.specs.declared.cmp.Ordering.{Ordering}
use Rattle.std.specs.declared.cmp.Ordering.TheVariants.{Less, Equal, Greater}
use Rattle.std.specs.Ordering.{is_eq}
use Rattle.std.specs.Cmp.Lexicographic.{nat_list_cmp_total}
use Rattle.std.proofs.lemmas.Cmp.{tied_itself}
use Rattle.std.proofs.lemmas.Option.{slice_get-map}
use Rattle.fd_lists.specs.Texts.{text_cmp}
use Rattle.fd_kinds.proofs.LabelOrder.{same_text}
use Rattle.fd_pprof.specs.Frames.{text}
use Rattle.fd_pprof.specs.Winners.{place_from, text_numbers}

tied : (o : Ordering) → is_eq o ≡ true → o ≡ Equal
tied Less h = cc
tied Equal h = refl
tied Greater h = cc

-- texts that tie are equal
pub same_by : (x y : List ℕ) → is_eq (text_cmp x y) ≡ true → x ≡ y
same_by x y h = same_text x y (tied (text_cmp x y) h)

pub ties : (x : List ℕ) → is_eq (text_cmp x x) ≡ true
ties x = ap is_eq (tied_itself nat_list_cmp_total x)

-- one more text in front
pub place_step : (ts : List (List ℕ)) (i : ℕ) (x t : List ℕ) (old new : Option ℕ) → i ≤ length ts → 0 < i → x ≡ get_or ts (i - 1) x
    → new ≡ cond (is_eq (text_cmp x t)) (Some (i - 1)) old → old ≡ place_from i (drop i ts) t → new ≡ place_from (i - 1) (drop (i - 1) ts) t
place_step ts i x t old new within some here changed before =
    let lt : i - 1 < length ts = omega arith in
    let s : suc (i - 1) ≡ i = omega arith in
    let p : i - 1 + 1 ≡ i = omega arith in
    let front : drop (i - 1) ts ≡ x ∷ drop i ts =
    drop-cons ts (i - 1) x lt ∙ ap (λ y. y ∷ drop (suc (i - 1)) ts) (sym here) ∙ ap (λ k. x ∷ drop k ts) s in
    changed ∙ ap (cond (is_eq (text_cmp x t)) (Some (i - 1))) before
    ∙ sym (ap (λ xs. place_from (i - 1) xs t) front ∙ ap (λ k. cond (is_eq (text_cmp x t)) (Some (i - 1)) (place_from k (drop i ts) t)) p)

-- what a place that is found tells
pub record IsPlaceOf (i k : ℕ) (ts : List (List ℕ)) (t : List ℕ) : Type 0 where
  pub past : i ≤ k
  pub there : slice_get ts (k - i) ≡ Some t

pub found : (ts : List (List ℕ)) (i k : ℕ) (t : List ℕ) → place_from i ts t ≡ Some k → IsPlaceOf i k ts t
found [] i k t h = cc
found (x ∷ ts) i k t h = by (is_eq (text_cmp x t)) refl (found ts (i + 1) k t) h
  where
    by : (b : Bool) → is_eq (text_cmp x t) ≡ b → (place_from (i + 1) ts t ≡ Some k → IsPlaceOf (i + 1) k ts t) → cond b (Some i) (place_from (i + 1) ts t) ≡ Some k → IsPlaceOf i k (x ∷ ts) t
    by true e later h =
        let same : i ≡ k = cc in
        let none : k - i ≡ 0 = omega arith in
        record { past = omega arith; there = ap (slice_get (x ∷ ts)) none ∙ ap Some (same_by x t e) }
    by false e later h =
        let r = later h in
        let more : k - i ≡ suc (k - (i + 1)) = omega (arith, r.past) in
        record { past = omega (arith, r.past); there = ap (slice_get (x ∷ ts)) more ∙ r.there }

-- a text of the table is found
pub is_found : (ts : List (List ℕ)) (i k : ℕ) (t : List ℕ) → slice_get ts k ≡ Some t → is_some (place_from i ts t) ≡ true
is_found [] i k t h = cc
is_found (x ∷ ts) i zero t h =
    let same : x ≡ t = cc in
    ap (λ b. is_some (cond b (Some i) (place_from (i + 1) ts t))) (ap (λ y. is_eq (text_cmp y t)) same ∙ ties t)
is_found (x ∷ ts) i (suc k) t h = by (is_eq (text_cmp x t)) (is_found ts (i + 1) k t h)
  where
    by : (b : Bool) → is_some (place_from (i + 1) ts t) ≡ true → is_some (cond b (Some i) (place_from (i + 1) ts t)) ≡ true
    by true h = refl
    by false h = h

abbrev number : List (List ℕ) → List ℕ → ℕ
number ts t = unwrap_or (place_from 0 ts t) 0

-- what a number tells of its text
pub record IsNumber (ts : List (List ℕ)) (k n : ℕ) : Type 0 where
  pub is : n ≡ number ts (text ts k)
  pub there : text ts n ≡ text ts k

pub number_of : (ts : List (List ℕ)) (k n : ℕ) → slice_get (text_numbers ts) k ≡ Some n → IsNumber ts k n
number_of ts k n h = by (slice_get ts k) refl (sym (slice_get-map (number ts) ts k) ∙ h)
  where
    by : (o : Option (List ℕ)) → slice_get ts k ≡ o → option_map (number ts) o ≡ Some n → IsNumber ts k n
    by None e h = cc
    by (Some t) e h = at (place_from 0 ts t) refl (is_found ts 0 k t e)
      where
        here : text ts k ≡ t
        here = ap (λ o. unwrap_or o []) e

        at : (o : Option ℕ) → place_from 0 ts t ≡ o → is_some o ≡ true → IsNumber ts k n
        at None f s = cc
        at (Some m) f s =
            let mn : number ts t ≡ n = cc in
            let m_is : m ≡ n = sym (ap (λ o. unwrap_or o 0) f) ∙ mn in
            let r = found ts 0 m t f in
            let same : m - 0 ≡ n = omega (arith, m_is) in
            record { is = sym mn ∙ ap (number ts) (sym here); there = ap (λ o. unwrap_or o []) (sym (ap (slice_get ts) same) ∙ r.there) ∙ sym here }
