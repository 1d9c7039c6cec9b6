-- What stands for a text is found again, and one more entry leaves the others.
use Rattle.std.proofs.Common.{◌≡◌, ◌≢◌, ℕ, zero, suc, ◌+◌, ◌-◌, ◌<◌, ◌≤◌, Bool, true, false, cond, List, [], ◌∷◌, ◌++◌, length, slice_get, refl, sym, ◌∙◌, ap, subst, arith}
use Rattle.std.specs.Prelude.{Option, Some, None, option_map, All}
use Rattle.std.specs.Option.{option_or}
use Rattle.std.specs.declared.cmp.Ordering.{Ordering}
use Rattle.std.specs.declared.cmp.Ordering.TheVariants.{Less, Equal, Greater}
use Rattle.std.specs.Ordering.{is_eq, match_ordering}
use Rattle.std.specs.BTreeMap.{BTreeMap, insert_entry, is_at}
use Rattle.std.specs.Map.{lookup}
use Rattle.std.specs.declared.vec.Vec.{Vec}
use Rattle.std.specs.declared.alloc.Global.{Global}
use Rattle.std.specs.Cmp.Lexicographic.{nat_list_cmp_total}
use Rattle.std.specs.FinMap.{slice_cmp-IsAntisymmetric, nat_cmp-IsAntisymmetric}
use Rattle.std.proofs.lemmas.Cmp.{tied_itself}
use Rattle.std.proofs.lemmas.Option.{same_Some}
use Rattle.std.proofs.lemmas.List.Elements.{All-head, All-tail}
use Rattle.fd_lists.specs.Texts.{text_cmp}
use Rattle.fd_dictionary.specs.Dictionaries.{picked, cells_of, pick_in, KnowsPicks}

pub same_text : (x y : List ℕ) → text_cmp x y ≡ Equal → x ≡ y
same_text = slice_cmp-IsAntisymmetric nat_cmp-IsAntisymmetric

pub eq_is : (o : Ordering) → is_eq o ≡ true → o ≡ Equal
eq_is Less h = cc
eq_is Equal h = refl
eq_is Greater h = cc

-- the pick stands for the text
record Finds (entries : List (List ℕ)) (text : List ℕ) (pick : ℕ) : Type 0 where
  inside : pick ≤ length entries
  there : picked entries pick ≡ Some text

found_next : (e : List ℕ) (es : List (List ℕ)) (text : List ℕ) (pick : ℕ) → Finds es text pick → Finds (e ∷ es) text (suc pick)
found_next e es text zero f = let no : None ≡ Some text = f.there in cc
found_next e es text (suc pick) f = record { inside = omega (arith, f.inside); there = f.there }

finds : (entries : List (List ℕ)) (text : List ℕ) (pick : ℕ) → pick_in entries text ≡ Some pick → Finds entries text pick
finds [] text pick h = cc
finds (e ∷ es) text pick h = by (is_eq (text_cmp text e)) refl (λ p. finds es text p) h
  where
    next : (o : Option ℕ) → pick_in es text ≡ o → ((p : ℕ) → pick_in es text ≡ Some p → Finds es text p) → option_map (λ p. suc p) o ≡ Some pick → Finds (e ∷ es) text pick
    next None is ih h = cc
    next (Some p) is ih h = subst (Finds (e ∷ es) text) (same_Some (suc p) pick h) (found_next e es text p (ih p is))

    by : (b : Bool) → is_eq (text_cmp text e) ≡ b → ((p : ℕ) → pick_in es text ≡ Some p → Finds es text p) → cond b (Some 1) (option_map (λ p. suc p) (pick_in es text)) ≡ Some pick → Finds (e ∷ es) text pick
    by true t ih h =
        let first : Finds (e ∷ es) text 1 = record { inside = omega arith; there = ap Some (sym (same_text text e (eq_is (text_cmp text e) t))) } in
        subst (Finds (e ∷ es) text) (same_Some 1 pick h) first
    by false t ih h = next (pick_in es text) refl ih h

pub pick_inside : (entries : List (List ℕ)) (text : List ℕ) (pick : ℕ) → pick_in entries text ≡ Some pick → pick ≤ length entries
pick_inside entries text pick h = (finds entries text pick h).inside

pub picked_again : (entries : List (List ℕ)) (text : List ℕ) (pick : ℕ) → pick_in entries text ≡ Some pick → picked entries pick ≡ Some text
picked_again entries text pick h = (finds entries text pick h).there

pub picked_above : (entries : List (List ℕ)) (pick : ℕ) → pick ≢ 0 → picked entries pick ≡ slice_get entries (pick - 1)
picked_above entries zero h = absurd (h refl)
picked_above entries (suc at) h = ap (slice_get entries) (omega arith)

pub slice_get_left : {X : Type 0} (xs ys : List X) (at : ℕ) → at < length xs → slice_get (xs ++ ys) at ≡ slice_get xs at
slice_get_left [] ys at h = absurd (omega (arith, h))
slice_get_left (x ∷ xs) ys zero h = refl
slice_get_left (x ∷ xs) ys (suc at) h = slice_get_left xs ys at (omega (arith, h))

slice_get_at : {X : Type 0} (xs : List X) (x : X) → slice_get (xs ++ x ∷ []) (length xs) ≡ Some x
slice_get_at [] x = refl
slice_get_at (y ∷ xs) x = slice_get_at xs x

pub picked_more : (entries more : List (List ℕ)) (pick : ℕ) → pick ≤ length entries → picked (entries ++ more) pick ≡ picked entries pick
picked_more entries more zero h = refl
picked_more entries more (suc pick) h = slice_get_left entries more pick (omega (arith, h))

pub picked_new : (entries : List (List ℕ)) (text : List ℕ) (pick : ℕ) → pick ≡ length entries + 1 → picked (entries ++ text ∷ []) pick ≡ Some text
picked_new entries text zero h = absurd (omega (arith, h))
picked_new entries text (suc pick) h =
    let same : pick ≡ length entries = omega (arith, h) in
    rw same (slice_get_at entries text)

pub cells_more : (entries more : List (List ℕ)) (picks : List ℕ) → All (λ pick. pick ≤ length entries) picks → cells_of (entries ++ more) picks ≡ cells_of entries picks
cells_more entries more [] h = refl
cells_more entries more (pick ∷ picks) h =
    let first = picked_more entries more pick (All-head (λ pick. pick ≤ length entries) pick picks h) in
    let others = cells_more entries more picks (All-tail (λ pick. pick ≤ length entries) pick picks h) in
    λ i. first i ∷ others i

-- what one entry alone has
abbrev only : List ℕ → ℕ → List ℕ → Option ℕ
only text pick other = cond (is_eq (text_cmp other text)) (Some pick) None

pub pick_in_push : (entries : List (List ℕ)) (text other : List ℕ) → pick_in (entries ++ text ∷ []) other ≡ option_or (pick_in entries other) (only text (length entries + 1) other)
pick_in_push [] text other = refl
pick_in_push (e ∷ es) text other = by (is_eq (text_cmp other e)) (pick_in_push es text other)
  where
    shift : (o : Option ℕ) (b : Bool) → option_map (λ p. suc p) (option_or o (cond b (Some (length es + 1)) None)) ≡ option_or (option_map (λ p. suc p) o) (cond b (Some (length (e ∷ es) + 1)) None)
    shift None true = ap Some (omega arith)
    shift None false = refl
    shift (Some p) b = refl

    by : (b : Bool) → pick_in (es ++ text ∷ []) other ≡ option_or (pick_in es other) (only text (length es + 1) other) → cond b (Some 1) (option_map (λ p. suc p) (pick_in (es ++ text ∷ []) other)) ≡ option_or (cond b (Some 1) (option_map (λ p. suc p) (pick_in es other))) (only text (length (e ∷ es) + 1) other)
    by true ih = refl
    by false ih = ap (option_map (λ p. suc p)) ih ∙ shift (pick_in es other) (is_eq (text_cmp other text))

abbrev Key : Type 0
Key = Vec ℕ Global

abbrev key_cmp : Key → Key → Ordering
key_cmp a b = text_cmp a.items b.items

abbrev asks : List ℕ → Key → Bool
asks text = is_at (λ key. text_cmp text key.items)

lookup_insert : (text : List ℕ) (es : List (Key × ℕ)) (key : Key) (v : ℕ) → lookup (asks text) (insert_entry key_cmp es key v) ≡ cond (asks text key) (Some v) (lookup (asks text) es)
lookup_insert text [] key v = refl
lookup_insert text (e ∷ es) key v = by (text_cmp key.items e.0.items) refl (lookup_insert text es key v)
  where
    swapped : (a b : Bool) → (a ≡ true → b ≡ true → ⊥) → (w : ℕ) (o : Option ℕ) → cond b (Some w) (cond a (Some v) o) ≡ cond a (Some v) (cond b (Some w) o)
    swapped true true = λ no w o. absurd (no refl refl)
    swapped true false = λ no w o. refl
    swapped false b = λ no w o. refl

    twice : (a b : Bool) (v w : ℕ) (o : Option ℕ) → a ≡ b → cond b (Some v) o ≡ cond a (Some v) (cond b (Some w) o)
    twice true true v w o s = refl
    twice false false v w o s = refl
    twice true false v w o s = cc
    twice false true v w o s = cc

    apart : text_cmp key.items e.0.items ≡ Greater → asks text key ≡ true → asks text e.0 ≡ true → ⊥
    apart g a b =
        let one : text ≡ key.items = same_text text key.items (eq_is (text_cmp text key.items) a) in
        let two : text ≡ e.0.items = same_text text e.0.items (eq_is (text_cmp text e.0.items) b) in
        let same : text_cmp key.items e.0.items ≡ Equal = subst (λ x. text_cmp x e.0.items ≡ Equal) one (subst (λ x. text_cmp text x ≡ Equal) two (tied_itself nat_list_cmp_total text)) in
        cc

    by : (o : Ordering) → text_cmp key.items e.0.items ≡ o → lookup (asks text) (insert_entry key_cmp es key v) ≡ cond (asks text key) (Some v) (lookup (asks text) es) → lookup (asks text) (match_ordering o ((key, v) ∷ e ∷ es) ((e.0, v) ∷ es) (e ∷ insert_entry key_cmp es key v)) ≡ cond (asks text key) (Some v) (lookup (asks text) (e ∷ es))
    by Less is ih = refl
    by Equal is ih =
        twice (asks text key) (asks text e.0) v e.1 (lookup (asks text) es) (ap (λ x. is_eq (text_cmp text x)) (same_text key.items e.0.items is))
    by Greater is ih =
        ap (cond (asks text e.0) (Some e.1)) ih ∙ swapped (asks text key) (asks text e.0) (apart is) e.1 (lookup (asks text) es)

pub knows_push : (old new : BTreeMap Key ℕ) (entries : List (List ℕ)) (key : Key) (text : List ℕ) (pick : ℕ) → new.entries ≡ insert_entry key_cmp old.entries key pick → key.items ≡ text → pick ≡ length entries + 1 → pick_in entries text ≡ None → KnowsPicks old entries → KnowsPicks new (entries ++ text ∷ [])
knows_push old new entries key text pick inserted key_is pick_is fresh knows other =
    ap (lookup (asks other)) inserted
    ∙ lookup_insert other old.entries key pick
    ∙ (λ i. cond (is_eq (text_cmp other (key_is i))) (Some (pick_is i)) (knows other i))
    ∙ order (is_eq (text_cmp other text)) refl
    ∙ sym (pick_in_push entries text other)
  where
    right : (o : Option ℕ) → o ≡ option_or o None
    right None = refl
    right (Some x) = refl

    order : (b : Bool) → is_eq (text_cmp other text) ≡ b → cond b (Some (length entries + 1)) (pick_in entries other) ≡ option_or (pick_in entries other) (cond b (Some (length entries + 1)) None)
    order true t =
        let none : pick_in entries other ≡ None = ap (pick_in entries) (same_text other text (eq_is (text_cmp other text) t)) ∙ fresh in
        rw none refl
    order false t = right (pick_in entries other)
