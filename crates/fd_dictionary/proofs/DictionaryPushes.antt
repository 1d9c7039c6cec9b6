-- A dictionary stays one with one more cell, which then stands at its end.
use Rattle.std.proofs.Common.{◌≡◌, ℕ, zero, suc, ◌+◌, ◌-◌, ◌≤◌, ◌≢◌, Bool, true, false, cond, List, [], ◌∷◌, ◌++◌, length, replicate, slice_get, refl, sym, ◌∙◌, ap, subst, arith, length-append}
use Rattle.std.proofs.lemmas.List.{map-append}
use Rattle.std.specs.Prelude.{Option, Some, None, option_map, unwrap_or, is_some, All, ◌==◌}
use Rattle.std.specs.Option.{option_or, option_and_then}
use Rattle.std.specs.Ordering.{is_eq}
use Rattle.std.specs.Cmp.Lexicographic.{nat_list_cmp_total}
use Rattle.std.proofs.lemmas.Cmp.{tied_itself}
use Rattle.std.proofs.lemmas.List.Elements.{All-nil, All-push, All-head, All-tail, All-cons, All-replicate, All-get_or}
use Rattle.std.proofs.lemmas.Option.{slice_get-map, slice_get_within, get_or_from_slice_get}
use Rattle.std.proofs.lemmas.List.Sums.{fold-append}
use Rattle.fd_lists.specs.Texts.{text_cmp}
use Rattle.fd_dictionary.specs.Dictionaries.{Cells, picked, cells_of, pick_in, pick_of, with_cell, entries_of, entry_at, index_in, IsDictionary}
use Rattle.fd_dictionary.proofs.DictionaryLaws.{pick_inside, picked_again, picked_more, picked_new, cells_more, pick_in_push}

-- the dictionary with one more cell
pub record HasMore (entries : List (List ℕ)) (picks : List ℕ) (old : Cells) (cell : Option (List ℕ)) : Type 0 where
  pub fine : IsDictionary entries picks
  pub cells : cells_of entries picks ≡ old ++ cell ∷ []

entries_of_push : (cells : Cells) (cell : Option (List ℕ)) → entries_of (cells ++ cell ∷ []) ≡ with_cell (entries_of cells) cell
entries_of_push cells cell = fold-append with_cell [] cells (cell ∷ [])

cells_push : (entries : List (List ℕ)) (picks : List ℕ) (pick : ℕ) → cells_of entries (picks ++ pick ∷ []) ≡ cells_of entries picks ++ picked entries pick ∷ []
cells_push entries picks pick = map-append (picked entries) picks (pick ∷ [])

-- where the entries stay
same_entries : (entries : List (List ℕ)) (picks : List ℕ) (pick : ℕ) (cell : Option (List ℕ)) → pick ≤ length entries → picked entries pick ≡ cell → pick_of entries cell ≡ pick → with_cell entries cell ≡ entries → IsDictionary entries picks → HasMore entries (picks ++ pick ∷ []) (cells_of entries picks) cell
same_entries entries picks pick cell inside there placed kept d = record {
  fine = record {
    within = All-push (λ p. p ≤ length entries) picks pick d.within inside;
    exact = sym (ap entries_of cells ∙ entries_of_push (cells_of entries picks) cell ∙ ap (λ es. with_cell es cell) (sym d.exact) ∙ kept);
    placed = All-push (λ p. pick_of entries (picked entries p) ≡ p) picks pick d.placed (ap (pick_of entries) there ∙ placed);
  };
  cells = cells;
}
  where
    cells : cells_of entries (picks ++ pick ∷ []) ≡ cells_of entries picks ++ cell ∷ []
    cells = cells_push entries picks pick ∙ ap (λ c. cells_of entries picks ++ c ∷ []) there

pub absent_more : (entries : List (List ℕ)) (picks : List ℕ) → IsDictionary entries picks → HasMore entries (picks ++ 0 ∷ []) (cells_of entries picks) None
absent_more entries picks d = same_entries entries picks 0 None (omega arith) refl refl refl d

pub known_more : (entries : List (List ℕ)) (picks : List ℕ) (text : List ℕ) (pick : ℕ) → pick_in entries text ≡ Some pick → IsDictionary entries picks → HasMore entries (picks ++ pick ∷ []) (cells_of entries picks) (Some text)
known_more entries picks text pick is d =
    same_entries entries picks pick (Some text) (pick_inside entries text pick is) (picked_again entries text pick is) (ap (λ o. unwrap_or o 0) is) (ap (λ o. cond (is_some o) entries (entries ++ text ∷ [])) is) d

-- what stood for a cell still does
still : (entries : List (List ℕ)) (text : List ℕ) (pick : ℕ) → pick ≤ length entries → pick_of entries (picked entries pick) ≡ pick → pick_of (entries ++ text ∷ []) (picked (entries ++ text ∷ []) pick) ≡ pick
still entries text pick inside placed =
    ap (pick_of (entries ++ text ∷ [])) (picked_more entries (text ∷ []) pick inside) ∙ by (picked entries pick) refl placed
  where
    at_zero : pick ≡ 0 → picked entries pick ≡ None
    at_zero z = ap (picked entries) z

    known : (t : List ℕ) (o : Option ℕ) → pick_in entries t ≡ o → picked entries pick ≡ Some t → unwrap_or o 0 ≡ pick → pick_of (entries ++ text ∷ []) (Some t) ≡ pick
    known t (Some p) is there placed = ap (λ o. unwrap_or o 0) (pick_in_push entries text t ∙ ap (λ o. option_or o (cond (is_eq (text_cmp t text)) (Some (length entries + 1)) None)) is) ∙ placed
    known t None is there placed =
        let none : picked entries pick ≡ None = at_zero (sym placed) in
        cc

    by : (c : Option (List ℕ)) → picked entries pick ≡ c → pick_of entries c ≡ pick → pick_of (entries ++ text ∷ []) c ≡ pick
    by None is placed = placed
    by (Some t) is placed = known t (pick_in entries t) refl is placed

all_still : (entries : List (List ℕ)) (text : List ℕ) (picks : List ℕ) → All (λ p. p ≤ length entries) picks → All (λ p. pick_of entries (picked entries p) ≡ p) picks → All (λ p. pick_of (entries ++ text ∷ []) (picked (entries ++ text ∷ []) p) ≡ p) picks
all_still entries text [] w h = All-nil (λ p. pick_of (entries ++ text ∷ []) (picked (entries ++ text ∷ []) p) ≡ p)
all_still entries text (p ∷ picks) w h =
    All-cons (λ p. pick_of (entries ++ text ∷ []) (picked (entries ++ text ∷ []) p) ≡ p) p picks (still entries text p (All-head (λ p. p ≤ length entries) p picks w) (All-head (λ p. pick_of entries (picked entries p) ≡ p) p picks h)) (all_still entries text picks (All-tail (λ p. p ≤ length entries) p picks w) (All-tail (λ p. pick_of entries (picked entries p) ≡ p) p picks h))

all_within : (entries more : List (List ℕ)) (picks : List ℕ) → All (λ p. p ≤ length entries) picks → All (λ p. p ≤ length (entries ++ more)) picks
all_within entries more [] w = All-nil (λ p. p ≤ length (entries ++ more))
all_within entries more (p ∷ picks) w =
    let first : p ≤ length entries = All-head (λ p. p ≤ length entries) p picks w in
    All-cons (λ p. p ≤ length (entries ++ more)) p picks (rw (length-append entries more) (omega (arith, first))) (all_within entries more picks (All-tail (λ p. p ≤ length entries) p picks w))

pub new_more : (entries : List (List ℕ)) (picks : List ℕ) (text : List ℕ) (pick : ℕ) → pick_in entries text ≡ None → pick ≡ length entries + 1 → IsDictionary entries picks → HasMore (entries ++ text ∷ []) (picks ++ pick ∷ []) (cells_of entries picks) (Some text)
new_more entries picks text pick fresh is d = record {
  fine = record {
    within = All-push (λ p. p ≤ length (entries ++ text ∷ [])) picks pick (all_within entries (text ∷ []) picks d.within) (rw (length-append entries (text ∷ [])) (omega (arith, is)));
    exact = sym (ap entries_of cells ∙ entries_of_push (cells_of entries picks) (Some text) ∙ ap (λ es. with_cell es (Some text)) (sym d.exact) ∙ ap (λ o. cond (is_some o) entries (entries ++ text ∷ [])) fresh);
    placed = All-push (λ p. pick_of (entries ++ text ∷ []) (picked (entries ++ text ∷ []) p) ≡ p) picks pick (all_still entries text picks d.within d.placed) placed;
  };
  cells = cells;
}
  where
    there : picked (entries ++ text ∷ []) pick ≡ Some text
    there = picked_new entries text pick is

    cells : cells_of (entries ++ text ∷ []) (picks ++ pick ∷ []) ≡ cells_of entries picks ++ Some text ∷ []
    cells =
        cells_push (entries ++ text ∷ []) picks pick ∙ (λ i. cells_more entries (text ∷ []) picks d.within i ++ there i ∷ [])

    found : pick_in (entries ++ text ∷ []) text ≡ Some pick
    found =
        pick_in_push entries text text
        ∙ (λ i. option_or (fresh i) (cond (is_eq (tied_itself nat_list_cmp_total text i)) (Some (length entries + 1)) None))
        ∙ ap Some (sym is)

    placed : pick_of (entries ++ text ∷ []) (picked (entries ++ text ∷ []) pick) ≡ pick
    placed = ap (pick_of (entries ++ text ∷ [])) there ∙ ap (λ o. unwrap_or o 0) found

pub blank_cells : (count : ℕ) → cells_of [] (replicate count 0) ≡ replicate count None
blank_cells zero = refl
blank_cells (suc count) = ap (λ cells. None ∷ cells) (blank_cells count)

no_entries : (count : ℕ) → entries_of (replicate count None) ≡ []
no_entries zero = refl
no_entries (suc count) = no_entries count

pub blank_fine : (count : ℕ) → IsDictionary [] (replicate count 0)
blank_fine count = record {
  within = All-replicate (λ p. p ≤ length {A = List ℕ} []) count 0 (omega arith);
  exact = sym (ap entries_of (blank_cells count) ∙ no_entries count);
  placed = All-replicate (λ p. pick_of [] (picked [] p) ≡ p) count 0 refl;
}

pub empty_fine : IsDictionary [] []
empty_fine = blank_fine 0

all_at : {X : Type 0} (P : X → Type 0) (xs : List X) (at : ℕ) (x : X) → All P xs → slice_get xs at ≡ Some x → P x
all_at P xs at x h there =
    subst P (get_or_from_slice_get xs at x x there) (All-get_or P xs at x (slice_get_within xs at x there) h)

-- the index of a cell, by what stands for it
index_at : (entries : List (List ℕ)) (picks : List ℕ) (at pick : ℕ) → IsDictionary entries picks → slice_get picks at ≡ Some pick → index_in (cells_of entries picks) at ≡ option_and_then (entry_at entries) (picked entries pick)
index_at entries picks at pick d there =
    ap (λ o. option_and_then (entry_at (entries_of (cells_of entries picks))) (option_and_then (λ cell. cell) o)) (slice_get-map (picked entries) picks at ∙ ap (option_map (picked entries)) there)
    ∙ ap (λ es. option_and_then (entry_at es) (picked entries pick)) (sym d.exact)

index_zero : (entries : List (List ℕ)) (picks : List ℕ) (at pick : ℕ) → IsDictionary entries picks → slice_get picks at ≡ Some pick → pick ≡ 0 → index_in (cells_of entries picks) at ≡ None
index_zero entries picks at pick d there is =
    index_at entries picks at pick d there ∙ ap (λ p. option_and_then (entry_at entries) (picked entries p)) is

index_above : (entries : List (List ℕ)) (picks : List ℕ) (at pick : ℕ) → IsDictionary entries picks → slice_get picks at ≡ Some pick → pick ≢ 0 → index_in (cells_of entries picks) at ≡ Some (pick - 1)
index_above entries picks at pick d there above =
    index_at entries picks at pick d there ∙ by (picked entries pick) (all_at (λ p. pick_of entries (picked entries p) ≡ p) picks at pick d.placed there)
  where
    known : (t : List ℕ) (o : Option ℕ) → pick_in entries t ≡ o → unwrap_or o 0 ≡ pick → entry_at entries t ≡ Some (pick - 1)
    known t None is placed = absurd (above (sym placed))
    known t (Some p) is placed = ap (option_map (λ p. p - 1)) is ∙ ap (λ p. Some (p - 1)) placed

    by : (c : Option (List ℕ)) → pick_of entries c ≡ pick → option_and_then (entry_at entries) c ≡ Some (pick - 1)
    by None placed = absurd (above (sym placed))
    by (Some t) placed = known t (pick_in entries t) refl placed

index_past : (entries : List (List ℕ)) (picks : List ℕ) (at : ℕ) → slice_get picks at ≡ None → index_in (cells_of entries picks) at ≡ None
index_past entries picks at past =
    ap (λ o. option_and_then (entry_at (entries_of (cells_of entries picks))) (option_and_then (λ cell. cell) o)) (slice_get-map (picked entries) picks at ∙ ap (option_map (picked entries)) past)

is_zero : (pick : ℕ) → (pick == 0) ≡ true → pick ≡ 0
is_zero pick e = grind arith

is_above : (pick : ℕ) → (pick == 0) ≡ false → pick ≢ 0
is_above pick e = grind arith

-- the index that what stands for a cell gives
pub index_is : (entries : List (List ℕ)) (picks : List ℕ) (at : ℕ) → IsDictionary entries picks → index_in (cells_of entries picks) at ≡ option_and_then (λ pick. cond (pick == 0) None (Some (pick - 1))) (slice_get picks at)
index_is entries picks at d = by (slice_get picks at) refl
  where
    either : (pick : ℕ) (b : Bool) → (pick == 0) ≡ b → slice_get picks at ≡ Some pick → index_in (cells_of entries picks) at ≡ cond b None (Some (pick - 1))
    either pick true e there = index_zero entries picks at pick d there (is_zero pick e)
    either pick false e there = index_above entries picks at pick d there (is_above pick e)

    by : (o : Option ℕ) → slice_get picks at ≡ o → index_in (cells_of entries picks) at ≡ option_and_then (λ pick. cond (pick == 0) None (Some (pick - 1))) o
    by None there = index_past entries picks at there
    by (Some pick) there = either pick (pick == 0) refl there
