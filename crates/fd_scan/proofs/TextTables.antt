-- The table of the known entries, as texts are added.
use Rattle.std.proofs.Common.{◌≡◌, inl, inr, ℕ, zero, suc, ◌+◌, ◌<◌, Bool, true, false, ◌||◌, List, [], ◌∷◌, ◌++◌, length, get_or, take, refl, sym, ◌∙◌, ap, subst, append-nil, append_assoc}
use Rattle.std.proofs.Math.ListN.{set}
use Rattle.std.proofs.lemmas.List.{take_more}
use Rattle.std.proofs.lemmas.List.{get_or-set_other}
use Rattle.std.proofs.lemmas.List.Folds.{list_any-append}
use Rattle.std.proofs.lemmas.Grind.{flat_map-append}
use Rattle.std.proofs.lemmas.Bool.{cases_eq}
use Rattle.std.specs.Prelude.{Option, Some, None, flat_map}
use Rattle.std.specs.Option.{option_to_list}
use Rattle.std.specs.List.{list_any}
use Rattle.std.specs.BTreeMap.{is_at}
use Rattle.std.specs.Cmp.{tied_itself}
use Rattle.std.specs.Ordering.{is_eq}
use Rattle.std.specs.Cmp.Lexicographic.{nat_list_cmp_total}
use Rattle.fd_kinds.specs.Meaning.{distinct}
use Rattle.fd_lists.specs.Texts.{text_cmp}
use Rattle.fd_dictionary.specs.Dictionaries.{Cells, cell_in, pick_in, entries_of, entry_at, index_in}
use Rattle.std.specs.Option.{option_and_then}
use Rattle.fd_scan.specs.DistinctTexts.{SeesTexts, is_seen, seen_more, text_at, texts_at}
use Rattle.fd_kinds.proofs.Distinct.{distinct_present, any_distinct}
use Rattle.fd_scan.proofs.SlotTables.{same_entry}

-- one more entry that is not known
pub unseen_more : (seen : List Bool) → ((entry : ℕ) → get_or seen entry false ≡ false) → (entry : ℕ) → get_or (seen ++ false ∷ []) entry false ≡ false
unseen_more [] none zero = refl
unseen_more [] none (suc entry) = refl
unseen_more (x ∷ seen) none zero = none zero
unseen_more (x ∷ seen) none (suc entry) = unseen_more seen (λ e. none (suc e)) entry

none_there : (seen : List Bool) → ((entry : ℕ) → get_or seen entry false ≡ false) → (o : Option ℕ) → is_seen seen o ≡ true → ⊥
none_there seen none None is = cc
none_there seen none (Some entry) is = let n : get_or seen entry false ≡ false = none entry in cc

pub sees_none : (cells : Cells) (keys : List (List ℕ)) (seen : List Bool) (items : List (List ℕ)) → ((entry : ℕ) → get_or seen entry false ≡ false) → keys ≡ distinct text_cmp items → SeesTexts cells keys seen items
sees_none cells keys seen items none held = record {
  held = held;
  each = λ at text is cell. absurd (none_there seen none (index_in cells at) is);
}

-- ---- the same entry has the same text

entry_is : (cells : Cells) (at : ℕ) (text : List ℕ) (entry : ℕ) → cell_in cells at ≡ Some text → index_in cells at ≡ Some entry → entry_at (entries_of cells) text ≡ Some entry
entry_is cells at text entry cell is = sym (ap (option_and_then (entry_at (entries_of cells))) cell) ∙ is

pub same_texts : (cells : Cells) (a b : ℕ) (entry : ℕ) (s t : List ℕ) → index_in cells a ≡ Some entry → index_in cells b ≡ Some entry → cell_in cells a ≡ Some s → cell_in cells b ≡ Some t → s ≡ t
same_texts cells a b entry s t ea eb ca cb =
    same_entry (entries_of cells) s t entry (pick_in (entries_of cells) s) (pick_in (entries_of cells) t) refl refl
    (entry_is cells a s entry ca ea) (entry_is cells b t entry cb eb)

-- ---- items

any_left : (q : List ℕ) (items more : List (List ℕ)) → list_any (is_at (text_cmp q)) items ≡ true → list_any (is_at (text_cmp q)) (items ++ more) ≡ true
any_left q items more h = list_any-append (is_at (text_cmp q)) items more ∙ ap (λ b. b || list_any (is_at (text_cmp q)) more) h

or_true : (a : Bool) → (a || true) ≡ true
or_true true = refl
or_true false = refl

any_last : (q : List ℕ) (items : List (List ℕ)) → list_any (is_at (text_cmp q)) (items ++ q ∷ []) ≡ true
any_last q items =
    list_any-append (is_at (text_cmp q)) items (q ∷ [])
    ∙ ap (λ r. list_any (is_at (text_cmp q)) items || (is_eq r || false)) (tied_itself nat_list_cmp_total q)
    ∙ or_true (list_any (is_at (text_cmp q)) items)

-- ---- steps

-- a cell whose entry is known
pub sees_still : (cells : Cells) (keys : List (List ℕ)) (seen : List Bool) (items : List (List ℕ)) (at : ℕ) → is_seen seen (index_in cells at) ≡ true → SeesTexts cells keys seen items → SeesTexts cells keys seen (items ++ text_at cells at)
sees_still cells keys seen items at is before = by (cell_in cells at) refl
  where
    by : (o : Option (List ℕ)) → cell_in cells at ≡ o → SeesTexts cells keys seen (items ++ option_to_list o)
    by None e = subst (SeesTexts cells keys seen) (sym (append-nil items)) before
    by (Some text) e = record {
      held = before.held ∙ distinct_present nat_list_cmp_total items text (any_distinct nat_list_cmp_total text items ∙ before.each at text is e);
      each = λ b t ib cb. any_left t items (text ∷ []) (before.each b t ib cb);
    }

seen_same : (seen : List Bool) (x y : ℕ) → (y ≡ x → ⊥) → get_or (set seen x true) y false ≡ true → get_or seen y false ≡ true
seen_same seen x y ne is = sym (get_or-set_other seen x y true false ne) ∙ is

-- a cell whose text was added, and its entry noted
pub sees_more : (cells : Cells) (old new : List (List ℕ)) (seen : List Bool) (items : List (List ℕ)) (at : ℕ)
    → ((items : List (List ℕ)) → old ≡ distinct text_cmp items → new ≡ distinct text_cmp (items ++ text_at cells at))
    → SeesTexts cells old seen items → SeesTexts cells new (seen_more seen (index_in cells at)) (items ++ text_at cells at)
sees_more cells old new seen items at step before = record {
  held = step items before.held;
  each = λ b t ib cb. by b t (index_in cells at) (index_in cells b) refl refl ib cb;
}
  where
    kept : (b : ℕ) (t : List ℕ) → is_seen seen (index_in cells b) ≡ true → cell_in cells b ≡ Some t → list_any (is_at (text_cmp t)) (items ++ text_at cells at) ≡ true
    kept b t ib cb = any_left t items (text_at cells at) (before.each b t ib cb)

    here : (b : ℕ) (t : List ℕ) (x : ℕ) (o : Option (List ℕ)) → index_in cells at ≡ Some x → index_in cells b ≡ Some x → cell_in cells at ≡ o → cell_in cells b ≡ Some t → list_any (is_at (text_cmp t)) (items ++ option_to_list o) ≡ true
    here b t x None ex ey ca cb = let n : None ≡ Some x = sym (ap (option_and_then (entry_at (entries_of cells))) ca) ∙ ex in absurd (cc)
    here b t x (Some s) ex ey ca cb = subst (λ s. list_any (is_at (text_cmp t)) (items ++ s ∷ []) ≡ true) (sym (same_texts cells at b x s t ex ey ca cb)) (any_last t items)

    by : (b : ℕ) (t : List ℕ) (x y : Option ℕ) → index_in cells at ≡ x → index_in cells b ≡ y → is_seen (seen_more seen x) y ≡ true → cell_in cells b ≡ Some t → list_any (is_at (text_cmp t)) (items ++ text_at cells at) ≡ true
    by b t None y ex ey ib cb = kept b t (ap (is_seen seen) ey ∙ ib) cb
    by b t (Some x) None ex ey ib cb = absurd (cc)
    by b t (Some x) (Some y) ex ey ib cb =
        elim (cases_eq y x) [
          | inl e ↦ here b t x (cell_in cells at) ex (ey ∙ ap Some e) refl cb
          | inr ne ↦ kept b t (ap (is_seen seen) ey ∙ seen_same seen x y ne ib) cb
        ]

-- ---- places

-- one more place
pub texts_more : (cells : Cells) (items : List (List ℕ)) (places : List ℕ) (i d : ℕ) → i < length places → (items ++ texts_at cells (take i places)) ++ text_at cells (get_or places i d) ≡ items ++ texts_at cells (take (i + 1) places)
texts_more cells items places i d within =
    append_assoc items (texts_at cells (take i places)) (text_at cells (get_or places i d))
    ∙ ap (λ l. items ++ l)
    (ap (λ l. texts_at cells (take i places) ++ l) (sym (append-nil (text_at cells (get_or places i d))))
    ∙ sym (flat_map-append (text_at cells) (take i places) (get_or places i d ∷ []))
    ∙ ap (flat_map (text_at cells)) (sym (take_more places i d within)))
