-- The columns of labels of one more row.
use Rattle.std.proofs.Common.{◌≡◌, ℕ, true, false, List, [], ◌∷◌, ◌++◌, map, length, IsTrue, refl, sym, ◌∙◌, ap}
use Rattle.std.specs.Prelude.{fold}
use Rattle.std.specs.declared.cmp.Ordering.{Ordering}
use Rattle.std.specs.declared.cmp.Ordering.TheVariants.{Less, Equal, Greater}
use Rattle.std.proofs.lemmas.List.{map-append}
use Rattle.std.proofs.lemmas.List.Elements.{All-head, All-tail, All-cons, All-nil}
use Rattle.fd_kinds.specs.declared.pair.Pair.{Pair}
use Rattle.fd_kinds.specs.LabelMaps.{value_of}
use Rattle.fd_lists.specs.Texts.{text_cmp}
use Rattle.fd_column.specs.Cells.{names_in}
use Rattle.fd_column.specs.LabelColumns.{label_column, label_columns, blank, add_column, add_columns, with_value}
use Rattle.fd_column.proofs.NameLaws.{are_rising, has, put, put_all, HasAll, Covers, names_of, to_less, rest_rises, under_has_not, all_rise, has_still, names_rise, names_cover, names_push, values_none}

add_column_is : (maps : List (List Pair)) (count : ℕ) (names : List (List ℕ)) (name : List ℕ) → IsTrue (are_rising names) → (has name names ≡ false → label_column maps name ≡ blank count name) → add_column count (map (label_column maps) names) name ≡ map (label_column maps) (put names name)
add_column_is maps count [] name r h = ap (λ c. c ∷ []) (sym (h refl))
add_column_is maps count (m ∷ ms) name r h =
    by (text_cmp name m) refl (add_column_is maps count ms name (rest_rises m ms r))
  where
    by : (o : Ordering) → text_cmp name m ≡ o → ((has name ms ≡ false → label_column maps name ≡ blank count name) → add_column count (map (label_column maps) ms) name ≡ map (label_column maps) (put ms name)) → add_column count (map (label_column maps) (m ∷ ms)) name ≡ map (label_column maps) (put (m ∷ ms) name)
    by Less e ih =
        let absent : has name (m ∷ ms) ≡ false = under_has_not name (m ∷ ms) (to_less (text_cmp name m) e) r in
        rw e (ap (λ c. c ∷ map (label_column maps) (m ∷ ms)) (sym (h absent)))
    by Equal e ih = rw e refl
    by Greater e ih =
        let h' : has name ms ≡ false → label_column maps name ≡ blank count name = λ fresh. h (rw e fresh) in
        rw e (ap (λ cs. label_column maps m ∷ cs) (ih h'))

covers_still : (names more : List (List ℕ)) (maps : List (List Pair)) → ((a : List ℕ) → has a names ≡ true → has a more ≡ true) → Covers names maps → Covers more maps
covers_still names more [] k c = All-nil (λ pairs. HasAll more (names_of pairs))
covers_still names more (ps ∷ maps) k c =
    All-cons (λ pairs. HasAll more (names_of pairs)) ps maps (one (names_of ps) (All-head (λ pairs. HasAll names (names_of pairs)) ps maps c)) (covers_still names more maps k (All-tail (λ pairs. HasAll names (names_of pairs)) ps maps c))
  where
    one : (some : List (List ℕ)) → HasAll names some → HasAll more some
    one [] h = All-nil (λ a. has a more ≡ true)
    one (a ∷ some) h =
        All-cons (λ a. has a more ≡ true) a some (k a (All-head (λ a. has a names ≡ true) a some h)) (one some (All-tail (λ a. has a names ≡ true) a some h))

blank_is : (maps : List (List Pair)) (names : List (List ℕ)) (name : List ℕ) → Covers names maps → has name names ≡ false → label_column maps name ≡ blank (length maps) name
blank_is maps names name c fresh = λ i. record { name = name; cells = values_none names name maps fresh c i }

add_columns_is : (maps : List (List Pair)) (names more : List (List ℕ)) → IsTrue (are_rising names) → Covers names maps → fold (add_column (length maps)) (map (label_column maps) names) more ≡ map (label_column maps) (put_all names more)
add_columns_is maps names [] r c = refl
add_columns_is maps names (name ∷ more) r c =
    ap (λ cs. fold (add_column (length maps)) cs more) (add_column_is maps (length maps) names name r (blank_is maps names name c))
    ∙ add_columns_is maps (put names name) more (all_rise names (name ∷ []) r) (covers_still names (put names name) maps (λ a h. has_still a names (name ∷ []) h) c)

with_value_is : (maps : List (List Pair)) (ps : List Pair) (name : List ℕ) → with_value ps (label_column maps name) ≡ label_column (maps ++ ps ∷ []) name
with_value_is maps ps name =
    λ i. record { name = name; cells = sym (map-append (λ pairs. value_of pairs name) maps (ps ∷ [])) i }

with_values_are : (maps : List (List Pair)) (ps : List Pair) (names : List (List ℕ)) → map (with_value ps) (map (label_column maps) names) ≡ map (label_column (maps ++ ps ∷ [])) names
with_values_are maps ps [] = refl
with_values_are maps ps (name ∷ names) = λ i. with_value_is maps ps name i ∷ with_values_are maps ps names i

pub labels_grow : (maps : List (List Pair)) (ps : List Pair) → map (with_value ps) (add_columns (length maps) (label_columns maps) ps) ≡ label_columns (maps ++ ps ∷ [])
labels_grow maps ps =
    ap (map (with_value ps)) (add_columns_is maps (names_in maps) (names_of ps) (names_rise maps) (names_cover maps))
    ∙ with_values_are maps ps (put_all (names_in maps) (names_of ps))
    ∙ ap (map (label_column (maps ++ ps ∷ []))) (sym (names_push maps ps))
