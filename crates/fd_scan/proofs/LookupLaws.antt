-- Texts by their places among the distinct ones of a column.
use Rattle.std.proofs.Common.{◌≡◌, ◌≢◌, ℕ, zero, suc, ◌+◌, ◌-◌, ◌<◌, Bool, true, false, cond, eqb, List, [], ◌∷◌, ◌++◌, length, drop, slice_get, refl, sym, ◌∙◌, ap, subst, arith, bytes_eq, add-one}
use Rattle.std.specs.Prelude.{Option, Some, None, option_map, unwrap_or, is_some, fold, ◌==◌}
use Rattle.std.specs.Option.{option_and_then}
use Rattle.std.specs.Ordering.{is_eq}
use Rattle.std.specs.Cmp.Lexicographic.{texts_ties}
use Rattle.std.proofs.lemmas.Slice.Eq.{bytes_eq-Decides}
use Rattle.fd_lists.specs.Texts.{text_cmp}
use Rattle.fd_dictionary.specs.Dictionaries.{Cells, pick_in, with_cell, entries_of, entry_at, index_in}
use Rattle.fd_scan.specs.RowPlaces.{has_text, is_entry}

same_bytes : (a b : List ℕ) → bytes_eq a b ≡ true → a ≡ b
same_bytes a b h = (bytes_eq-Decides a b).0 h

bytes_same : (a : List ℕ) → bytes_eq a a ≡ true
bytes_same a = (bytes_eq-Decides a a).1 refl

tied : (a b : List ℕ) → is_eq (text_cmp a b) ≡ bytes_eq a b
tied a b = sym (texts_ties a b)

-- ---- the place of a text

abbrev later : ℕ → Option ℕ → Option ℕ
later at o = option_map (λ pick. pick + at) o

later_more : (at : ℕ) (o : Option ℕ) → later at (option_map (λ pick. suc pick) o) ≡ later (at + 1) o
later_more at None = refl
later_more at (Some p) = ap Some (omega arith)

from : (es : List (List ℕ)) (at : ℕ) (e : List ℕ) → slice_get es at ≡ Some e → drop at es ≡ e ∷ drop (suc at) es
from [] at e h = cc
from (x ∷ es) zero e h = let s : x ≡ e = cc in ap (λ y. y ∷ es) s
from (x ∷ es) (suc at) e h = from es at e h

there : (es : List (List ℕ)) (at : ℕ) (e : List ℕ) → slice_get es at ≡ Some e → drop at es ≡ e ∷ drop (at + 1) es
there es at e h = from es at e h ∙ ap (λ n. e ∷ drop n es) (sym (add-one at))

inside : (es : List (List ℕ)) (at : ℕ) → at < length es → (e : List ℕ) × (slice_get es at ≡ Some e)
inside [] at h = absurd (omega arith)
inside (x ∷ es) zero h = (x, refl)
inside (x ∷ es) (suc at) h = inside es at (omega arith)

-- the entry there is another text
pub pick_more : (es : List (List ℕ)) (at : ℕ) (text : List ℕ) → at < length es → slice_get es at ≢ Some text → pick_in es text ≡ later at (pick_in (drop at es) text) → pick_in es text ≡ later (at + 1) (pick_in (drop (at + 1) es) text)
pick_more es at text within other before =
    let e : List ℕ = (inside es at within).0 in
    let is : slice_get es at ≡ Some e = (inside es at within).1 in
    before
    ∙ ap (λ l. later at (pick_in l text)) (there es at e is)
    ∙ ap (λ b. later at (cond b (Some 1) (option_map (λ pick. suc pick) (pick_in (drop (at + 1) es) text)))) (tied text e ∙ by e is (bytes_eq text e) refl)
    ∙ later_more at (pick_in (drop (at + 1) es) text)
  where
    by : (e : List ℕ) → slice_get es at ≡ Some e → (b : Bool) → bytes_eq text e ≡ b → bytes_eq text e ≡ false
    by e is false h = h
    by e is true h = absurd (other (is ∙ ap Some (sym (same_bytes text e h))))

-- the entry there is the text
pub pick_found : (es : List (List ℕ)) (at : ℕ) (text : List ℕ) → slice_get es at ≡ Some text → pick_in es text ≡ later at (pick_in (drop at es) text) → entry_at es text ≡ Some at
pick_found es at text is before =
    ap (option_map (λ pick. pick - 1))
    (before
    ∙ ap (λ l. later at (pick_in l text)) (there es at text is)
    ∙ ap (λ b. later at (cond b (Some 1) (option_map (λ pick. suc pick) (pick_in (drop (at + 1) es) text)))) (tied text text ∙ bytes_same text))
    ∙ ap Some (omega arith)

-- ---- a text of the column has a place, where it stands

record IsAt (es : List (List ℕ)) (text : List ℕ) (pick : ℕ) : Type 0 where
  at : ℕ
  is : pick ≡ suc at
  stands : slice_get es at ≡ Some text

picked_text : (es : List (List ℕ)) (text : List ℕ) (pick : ℕ) → pick_in es text ≡ Some pick → IsAt es text pick
picked_text [] text pick h = absurd (cc)
picked_text (e ∷ es) text pick h = by (bytes_eq text e) refl (pick_in es text) refl (λ q is. picked_text es text q is)
  where
    by : (b : Bool) → bytes_eq text e ≡ b → (o : Option ℕ) → pick_in es text ≡ o → ((q : ℕ) → pick_in es text ≡ Some q → IsAt es text q) → IsAt (e ∷ es) text pick
    by true same o is others =
        let p : Some 1 ≡ Some pick = sym (ap (λ b. cond b (Some 1) (option_map (λ pick. suc pick) (pick_in es text))) (tied text e ∙ same)) ∙ h in
        record { at = 0; is = cc; stands = ap Some (sym (same_bytes text e same)) }
    by false other None is others =
        let p : None ≡ Some pick = sym (ap (λ b. cond b (Some 1) (option_map (λ pick. suc pick) (pick_in es text))) (tied text e ∙ other) ∙ ap (option_map (λ pick. suc pick)) is) ∙ h in
        absurd (cc)
    by false other (Some q) is others =
        let p : Some (suc q) ≡ Some pick = sym (ap (λ b. cond b (Some 1) (option_map (λ pick. suc pick) (pick_in es text))) (tied text e ∙ other) ∙ ap (option_map (λ pick. suc pick)) is) ∙ h in
        let before : IsAt es text q = others q is in
        let s : pick ≡ suc q = cc in
        record { at = suc before.at; is = s ∙ ap suc before.is; stands = before.stands }

-- two texts with the same place are the same
pub same_place : (es : List (List ℕ)) (a b : List ℕ) (p q : ℕ) → pick_in es a ≡ Some p → pick_in es b ≡ Some q → p - 1 ≡ q - 1 → a ≡ b
same_place es a b p q ha hb same =
    let x : IsAt es a p = picked_text es a p ha in
    let y : IsAt es b q = picked_text es b q hb in
    let e : x.at ≡ y.at = omega (arith, x.is, y.is) in
    let s : Some a ≡ Some b = sym x.stands ∙ ap (slice_get es) e ∙ y.stands in
    cc

has_itself : (es : List (List ℕ)) (text : List ℕ) → is_some (pick_in (es ++ text ∷ []) text) ≡ true
has_itself [] text = ap (λ b. is_some {T = ℕ} (cond b (Some 1) None)) (tied text text ∙ bytes_same text)
has_itself (e ∷ es) text = by (is_eq (text_cmp text e)) (pick_in (es ++ text ∷ []) text) (has_itself es text)
  where
    by : (b : Bool) (o : Option ℕ) → is_some o ≡ true → is_some (cond b (Some 1) (option_map (λ pick. suc pick) o)) ≡ true
    by true o h = refl
    by false None h = h
    by false (Some p) h = refl

has_still : (es : List (List ℕ)) (text other : List ℕ) → is_some (pick_in es text) ≡ true → is_some (pick_in (es ++ other ∷ []) text) ≡ true
has_still [] text other h = cc
has_still (e ∷ es) text other h = by (is_eq (text_cmp text e)) (pick_in es text) (pick_in (es ++ other ∷ []) text) h (has_still es text other)
  where
    by : (b : Bool) (o o' : Option ℕ) → is_some (cond b (Some 1) (option_map (λ pick. suc pick) o)) ≡ true → (is_some o ≡ true → is_some o' ≡ true) → is_some (cond b (Some 1) (option_map (λ pick. suc pick) o')) ≡ true
    by true o o' h k = refl
    by false None o' h k = cc
    by false (Some p) None h k = k refl
    by false (Some p) (Some q) h k = refl

has_with : (es : List (List ℕ)) (text : List ℕ) (cell : Option (List ℕ)) → is_some (pick_in es text) ≡ true → is_some (pick_in (with_cell es cell) text) ≡ true
has_with es text None h = h
has_with es text (Some other) h = by (is_some (pick_in es other))
  where
    by : (b : Bool) → is_some (pick_in (cond b es (es ++ other ∷ [])) text) ≡ true
    by true = h
    by false = has_still es text other h

has_added : (es : List (List ℕ)) (text : List ℕ) → is_some (pick_in (with_cell es (Some text)) text) ≡ true
has_added es text = by (is_some (pick_in es text)) refl
  where
    by : (b : Bool) → is_some (pick_in es text) ≡ b → is_some (pick_in (cond b es (es ++ text ∷ [])) text) ≡ true
    by true h = h
    by false h = has_itself es text

has_after : (es : List (List ℕ)) (cells : Cells) (text : List ℕ) → is_some (pick_in es text) ≡ true → is_some (pick_in (fold with_cell es cells) text) ≡ true
has_after es [] text h = h
has_after es (c ∷ cs) text h = has_after (with_cell es c) cs text (has_with es text c h)

has_from : (es : List (List ℕ)) (cells : Cells) (at : ℕ) (text : List ℕ) → slice_get cells at ≡ Some (Some text) → is_some (pick_in (fold with_cell es cells) text) ≡ true
has_from es [] at text h = absurd (cc)
has_from es (c ∷ cs) zero text h =
    let s : c ≡ Some text = cc in
    has_after (with_cell es c) cs text (subst (λ d. is_some (pick_in (with_cell es d) text) ≡ true) (sym s) (has_added es text))
has_from es (c ∷ cs) (suc at) text h = has_from (with_cell es c) cs at text h

-- ---- comparing places is comparing texts

pub empty_text : (text : List ℕ) → (length text == 0) ≡ bytes_eq [] text
empty_text [] = refl
empty_text (x ∷ text) = not_none (length text)
  where
    not_none : (n : ℕ) → (suc n == 0) ≡ false
    not_none n = grind arith

abbrev place : Option ℕ → Option ℕ
place o = option_map (λ pick. pick - 1) o

compared : (es : List (List ℕ)) (a text : List ℕ) (empty : Bool) (o w : Option ℕ) → pick_in es a ≡ o → pick_in es text ≡ w → is_some o ≡ true → is_entry (place w) empty (place o) ≡ bytes_eq a text
compared es a text empty None w ho hw some = absurd (cc)
compared es a text empty (Some p) None ho hw some = by (bytes_eq a text) refl
  where
    by : (b : Bool) → bytes_eq a text ≡ b → false ≡ bytes_eq a text
    by false h = sym h
    by true h = let n : None ≡ Some p = sym hw ∙ ap (pick_in es) (sym (same_bytes a text h)) ∙ ho in absurd (cc)
compared es a text empty (Some p) (Some q) ho hw some = by (bytes_eq a text) (eqb (q - 1) (p - 1)) refl refl
  where
    by : (b e : Bool) → bytes_eq a text ≡ b → eqb (q - 1) (p - 1) ≡ e → eqb (q - 1) (p - 1) ≡ bytes_eq a text
    by true true hb he = he ∙ sym hb
    by false false hb he = he ∙ sym hb
    by true false hb he =
        let s : a ≡ text = same_bytes a text hb in
        let e : Some p ≡ Some q = sym ho ∙ ap (pick_in es) s ∙ hw in
        let n : p ≡ q = cc in
        absurd (grind arith)
    by false true hb he =
        let n : p - 1 ≡ q - 1 = grind arith in
        let s : a ≡ text = same_place es a text p q ho hw n in
        let t : bytes_eq a text ≡ true = ap (bytes_eq a) (sym s) ∙ bytes_same a in
        cc

-- whether the cell has the entry of the text is whether it has the text
pub entry_compares : (cells : Cells) (text : List ℕ) (at : ℕ) → is_entry (entry_at (entries_of cells) text) (length text == 0) (index_in cells at) ≡ has_text cells text at
entry_compares cells text at = by (slice_get cells at) refl
  where
    by : (c : Option (Option (List ℕ))) → slice_get cells at ≡ c → is_entry (entry_at (entries_of cells) text) (length text == 0) (option_and_then (entry_at (entries_of cells)) (option_and_then (λ cell. cell) c)) ≡ bytes_eq (unwrap_or (option_and_then (λ cell. cell) c) []) text
    by None h = empty_text text
    by (Some None) h = empty_text text
    by (Some (Some a)) h =
        compared (entries_of cells) a text (length text == 0) (pick_in (entries_of cells) a) (pick_in (entries_of cells) text) refl refl (has_from [] cells at a h)
