-- The labels of a row are read back from the columns.
use Rattle.std.proofs.Common.{◌≡◌, ℕ, zero, suc, Bool, true, false, cond, List, [], ◌∷◌, map, IsTrue, refl, sym, ◌∙◌, ap, subst}
use Rattle.std.specs.Prelude.{Option, Some, option_map, slice_get}
use Rattle.std.specs.List.{filter_map, cons_option}
use Rattle.std.specs.Option.{option_and_then}
use Rattle.std.specs.declared.cmp.Ordering.{Ordering}
use Rattle.std.specs.declared.cmp.Ordering.TheVariants.{Less, Equal, Greater}
use Rattle.std.specs.Ordering.{is_eq, ordering_reverse}
use Rattle.std.specs.Cmp.Lexicographic.{nat_list_cmp_total}
use Rattle.std.proofs.lemmas.Option.{slice_get-map, same_Some}
use Rattle.std.proofs.lemmas.List.Elements.{All-nil, All-cons, All-head, All-tail}
use Rattle.fd_kinds.specs.declared.pair.Pair.{Pair}
use Rattle.fd_kinds.specs.declared.labels.Labels.{Labels}
use Rattle.fd_kinds.specs.Labels.{are_labels, is_before}
use Rattle.fd_kinds.specs.LabelMaps.{value_of}
use Rattle.fd_kinds.specs.LabelsOf.{with_pairs}
use Rattle.fd_lists.specs.Texts.{text_cmp}
use Rattle.fd_kinds.proofs.LabelOrder.{tail, first_before, before_more, absent_before}
use Rattle.fd_kinds.proofs.RowLaws.{same_labels_of_pairs}
use Rattle.fd_column.specs.Cells.{names_in}
use Rattle.fd_column.specs.LabelColumns.{label_column, label_columns, pair_at, pairs_at, labels_from}
use Rattle.fd_column.proofs.NameLaws.{same_text, is_under, are_rising, has, HasAll, Covers, names_of, less_from, to_less, rest_rises, first_under, under_more, under_has_not, names_rise, names_cover}

-- the pair of a name, none where the name is absent
abbrev named : List Pair → List ℕ → Option Pair
named ps name = option_map (λ value. record { name = name; value = value }) (value_of ps name)

turned : (x y : List ℕ) {o : Ordering} → text_cmp x y ≡ o → text_cmp y x ≡ ordering_reverse o
turned x y e = nat_list_cmp_total.antisymm y x ∙ ap ordering_reverse e

-- pairs behind a name are covered by the names behind it
covers_rest : (m : List ℕ) (ms : List (List ℕ)) (ps : List Pair) → IsTrue (is_before m ps) → IsTrue (are_labels ps) → HasAll (m ∷ ms) (names_of ps) → HasAll ms (names_of ps)
covers_rest m ms [] b l h = All-nil (λ a. has a ms ≡ true)
covers_rest m ms (p ∷ ps) b l h =
    let less : text_cmp m p.name ≡ Less = less_from (text_cmp m p.name) b in
    let first : has p.name (m ∷ ms) ≡ true = All-head (λ a. has a (m ∷ ms) ≡ true) p.name (names_of ps) h in
    All-cons (λ a. has a ms ≡ true) p.name (names_of ps) (sym (ap (λ o. cond (is_eq o) true (has p.name ms)) (turned m p.name less)) ∙ first) (covers_rest m ms ps (before_more m p.name ps less (first_before p ps l)) (tail p ps l) (All-tail (λ a. has a (m ∷ ms) ≡ true) p.name (names_of ps) h))

-- names behind the first pair's have the values of the others
values_rest : (p : Pair) (qs : List Pair) (ms : List (List ℕ)) → IsTrue (is_under p.name ms) → IsTrue (are_rising ms) → filter_map (named (p ∷ qs)) ms ≡ filter_map (named qs) ms
values_rest p qs [] u r = refl
values_rest p qs (m ∷ ms) u r =
    let less : text_cmp p.name m ≡ Less = less_from (text_cmp p.name m) u in
    let first : named (p ∷ qs) m ≡ named qs m = ap (λ o. option_map (λ value. record { name = m; value = value }) (cond (is_eq o) (Some p.value) (value_of qs m))) (turned p.name m less) in
    let others = values_rest p qs ms (under_more p.name m ms less (first_under m ms r)) (rest_rises m ms r) in
    λ i. cons_option (first i) (others i)

pairs_back : (names : List (List ℕ)) (ps : List Pair) → IsTrue (are_rising names) → IsTrue (are_labels ps) → HasAll names (names_of ps) → filter_map (named ps) names ≡ ps
pairs_back [] [] r l h = refl
pairs_back [] (p ∷ ps) r l h = let no : false ≡ true = All-head (λ a. has a [] ≡ true) p.name (names_of ps) h in cc
pairs_back (m ∷ ms) [] r l h = pairs_back ms [] (rest_rises m ms r) l (All-nil (λ a. has a ms ≡ true))
pairs_back (m ∷ ms) (p ∷ qs) r l h =
    by (text_cmp m p.name) refl (pairs_back ms (p ∷ qs) (rest_rises m ms r) l) (pairs_back ms qs (rest_rises m ms r) (tail p qs l))
  where
    by : (o : Ordering) → text_cmp m p.name ≡ o → (HasAll ms (names_of (p ∷ qs)) → filter_map (named (p ∷ qs)) ms ≡ p ∷ qs) → (HasAll ms (names_of qs) → filter_map (named qs) ms ≡ qs) → filter_map (named (p ∷ qs)) (m ∷ ms) ≡ p ∷ qs
    by Less e same rest =
        rw (absent_before (p ∷ qs) m l (to_less (text_cmp m p.name) e)) (same (covers_rest m ms (p ∷ qs) (to_less (text_cmp m p.name) e) l h))
    by Equal e same rest =
        let is : m ≡ p.name = same_text m p.name e in
        let under : IsTrue (is_under p.name ms) = subst (λ x. IsTrue (is_under x ms)) is (first_under m ms r) in
        let before : IsTrue (is_before m qs) = subst (λ x. IsTrue (is_before x qs)) (sym is) (first_before p qs l) in
        let first : named (p ∷ qs) m ≡ Some p = ap (λ o. option_map (λ value. record { name = m; value = value }) (cond (is_eq o) (Some p.value) (value_of qs m))) e ∙ (λ i. Some (record { name = is i; value = p.value })) in
        let others : filter_map (named (p ∷ qs)) ms ≡ qs = values_rest p qs ms under (rest_rises m ms r) ∙ rest (covers_rest m ms qs before (tail p qs l) (All-tail (λ a. has a (m ∷ ms) ≡ true) p.name (names_of qs) h)) in
        λ i. cons_option (first i) (others i)
    by Greater e same rest =
        let less : text_cmp p.name m ≡ Less = turned m p.name e in
        let no : has p.name (m ∷ ms) ≡ false = under_has_not p.name (m ∷ ms) (to_less (text_cmp p.name m) less) r in
        let yes : has p.name (m ∷ ms) ≡ true = All-head (λ a. has a (m ∷ ms) ≡ true) p.name (names_of qs) h in
        cc

pair_at_is : (maps : List (List Pair)) (at : ℕ) (ps : List Pair) (name : List ℕ) → slice_get maps at ≡ Some ps → pair_at at (label_column maps name) ≡ named ps name
pair_at_is maps at ps name is =
    ap (λ o. option_map (λ value. record { name = name; value = value }) (option_and_then (λ cell. cell) o)) (slice_get-map (λ pairs. value_of pairs name) maps at ∙ ap (option_map (λ pairs. value_of pairs name)) is)

pairs_at_are : (maps : List (List Pair)) (at : ℕ) (ps : List Pair) (names : List (List ℕ)) → slice_get maps at ≡ Some ps → pairs_at (map (label_column maps) names) at ≡ filter_map (named ps) names
pairs_at_are maps at ps [] is = refl
pairs_at_are maps at ps (name ∷ names) is =
    let first = pair_at_is maps at ps name is in
    let others = pairs_at_are maps at ps names is in
    λ i. cons_option (first i) (others i)

-- a list of a list of pairs covers each of them
covered : (names : List (List ℕ)) (maps : List (List Pair)) (at : ℕ) (ps : List Pair) → slice_get maps at ≡ Some ps → Covers names maps → HasAll names (names_of ps)
covered names [] at ps is c = cc
covered names (first ∷ maps) zero ps is c =
    subst (λ pairs. HasAll names (names_of pairs)) (same_Some first ps is) (All-head (λ pairs. HasAll names (names_of pairs)) first maps c)
covered names (first ∷ maps) (suc at) ps is c =
    covered names maps at ps is (All-tail (λ pairs. HasAll names (names_of pairs)) first maps c)

pub pairs_of_row : (maps : List (List Pair)) (at : ℕ) (ps : List Pair) → slice_get maps at ≡ Some ps → IsTrue (are_labels ps) → pairs_at (label_columns maps) at ≡ ps
pairs_of_row maps at ps is l =
    pairs_at_are maps at ps (names_in maps) is
    ∙ pairs_back (names_in maps) ps (names_rise maps) l (covered (names_in maps) maps at ps is (names_cover maps))

with_pairs_is : (ps : List Pair) (b : Bool) (e : are_labels ps ≡ b) → b ≡ true → (with_pairs ps b e).pairs ≡ ps
with_pairs_is ps true e h = refl
with_pairs_is ps false e h = cc

pub labels_from_is : (labels : Labels) (ps : List Pair) → ps ≡ labels.pairs → labels_from ps ≡ labels
labels_from_is labels ps is =
    sym (same_labels_of_pairs labels (labels_from ps) (sym is ∙ sym (with_pairs_is ps (are_labels ps) refl (ap are_labels is ∙ labels.in_order))))
