-- What a query means is the same for rows in another order.
use Rattle.std.proofs.Common.{◌≡◌, ℕ, ℤ, int_eq, Bool, ◌||◌, List, [], ◌∷◌, map, flat_map, refl, sym, ◌∙◌, ap, Option, Some, None, IsPermutation}
use Rattle.std.specs.declared.cmp.Ordering.{Ordering}
use Rattle.std.specs.Ordering.{eq_by_cmp}
use Rattle.std.specs.Cmp.{IsTotalOrder, int_cmp_total}
use Rattle.std.specs.FinMap.{IsAntisymmetric, int_cmp-IsAntisymmetric}
use Rattle.std.specs.List.{list_any}
use Rattle.std.proofs.lemmas.List.Folds.{list_any-append}
use Rattle.fd_kinds.specs.declared.row.Row.{Row}
use Rattle.fd_kinds.specs.declared.labels.Labels.{Labels}
use Rattle.fd_kinds.specs.declared.query.Query.{Query}
use Rattle.fd_kinds.specs.declared.query.Query.TheVariants as query
use Rattle.fd_kinds.specs.declared.query.Answer.TheVariants as answer
use Rattle.fd_kinds.specs.declared.query.Selector.{Selector}
use Rattle.fd_kinds.specs.declared.query.Window.{Window}
use Rattle.fd_kinds.specs.Meaning.{is_within, kept_rows, filtered_rows, distinct, has_stack, stack_sum, stack_sums, merge_of, type_of, types_of, label_names, values_at, label_values, series_of, series_names, has_labels, point_at, points_of, range_at, ranges_of, meaning}
use Rattle.fd_kinds.proofs.Distinct.{same_distinct}
use Rattle.fd_kinds.proofs.Orders.{text_cmp_total, text_cmp_exact, stack_cmp_total, stack_cmp_exact, labels_cmp_total, labels_cmp_exact, type_cmp_total, type_cmp_exact, series_cmp_total, series_cmp_exact}
use Rattle.fd_kinds.proofs.Permutations.{Shuffled, shuffled_from_permutation, filter_shuffled, any_shuffled, value_sum_shuffled}

-- ---- the rows that are kept

kept_shuffled : (selector : Selector) (window : Window) {a b : List Row} → Shuffled a b → Shuffled (kept_rows selector window a) (kept_rows selector window b)
kept_shuffled selector window h = filter_shuffled _ h

filtered_shuffled : (selector : Option Selector) (window : Window) {a b : List Row} → Shuffled a b → Shuffled (filtered_rows selector window a) (filtered_rows selector window b)
filtered_shuffled None window h = filter_shuffled (is_within window) h
filtered_shuffled (Some selector) window h = kept_shuffled selector window h

-- ---- distinct items of rows

any_map : {X K : Type 0} (p : K → Bool) (f : X → K) (xs : List X) → list_any p (map f xs) ≡ list_any (λ x. p (f x)) xs
any_map p f [] = refl
any_map p f (x ∷ xs) = ap (λ b. p (f x) || b) (any_map p f xs)

any_flat_map : {X K : Type 0} (p : K → Bool) (f : X → List K) (xs : List X) → list_any p (flat_map f xs) ≡ list_any (λ x. list_any p (f x)) xs
any_flat_map p f [] = refl
any_flat_map p f (x ∷ xs) = list_any-append p (f x) (flat_map f xs) ∙ ap (λ b. list_any p (f x) || b) (any_flat_map p f xs)

module _ {K : Type 0} {R : K → K → Ordering} (o : IsTotalOrder R) (exact : IsAntisymmetric R) {a b : List Row} (h : Shuffled a b) where
  distinct_map : (f : Row → K) → distinct R (map f a) ≡ distinct R (map f b)
  distinct_map f =
      same_distinct o exact (map f a) (map f b)
      (λ q. any_map (eq_by_cmp R q) f a ∙ any_shuffled (λ row. eq_by_cmp R q (f row)) h ∙ sym (any_map (eq_by_cmp R q) f b))

  distinct_flat_map : (f : Row → List K) → distinct R (flat_map f a) ≡ distinct R (flat_map f b)
  distinct_flat_map f =
      same_distinct o exact (flat_map f a) (flat_map f b)
      (λ q. any_flat_map (eq_by_cmp R q) f a ∙ any_shuffled (λ row. list_any (eq_by_cmp R q) (f row)) h ∙ sym (any_flat_map (eq_by_cmp R q) f b))

-- ---- sums of rows

module _ {a b : List Row} (h : Shuffled a b) where
  same_stack_sum : (stack : List (List ℕ)) → stack_sum a stack ≡ stack_sum b stack
  same_stack_sum stack = ap (λ n. record { stack = stack; value = n }) (value_sum_shuffled (filter_shuffled (has_stack stack) h))

  same_stack_sums : stack_sums a ≡ stack_sums b
  same_stack_sums = λ i. map (λ stack. same_stack_sum stack i) (distinct_map stack_cmp_total stack_cmp_exact h (λ row. row.stack) i)

  same_merge : merge_of a ≡ merge_of b
  same_merge = λ i. answer.Merge (same_stack_sums i) (value_sum_shuffled h i)

  same_point : (time : ℤ) → point_at a time ≡ point_at b time
  same_point time = ap (λ n. record { timestamp = time; value = n }) (value_sum_shuffled (filter_shuffled (λ row. int_eq time row.timestamp) h))

  same_points : points_of a ≡ points_of b
  same_points = λ i. map (λ time. same_point time i) (distinct_map int_cmp_total int_cmp-IsAntisymmetric h (λ row. row.timestamp) i)

module _ {a b : List Row} (h : Shuffled a b) where
  same_range : (labels : Labels) → range_at a labels ≡ range_at b labels
  same_range labels = ap (λ points. record { labels = labels; points = points }) (same_points (filter_shuffled (has_labels labels) h))

  same_ranges : ranges_of a ≡ ranges_of b
  same_ranges = λ i. map (λ labels. same_range labels i) (distinct_map labels_cmp_total labels_cmp_exact h (λ row. row.labels) i)

-- ---- each query

module _ {a b : List Row} (h : Shuffled a b) where
  same_types : types_of a ≡ types_of b
  same_types = distinct_map type_cmp_total type_cmp_exact h type_of

  same_label_names : label_names a ≡ label_names b
  same_label_names = distinct_flat_map text_cmp_total text_cmp_exact h (λ row. map (λ pair. pair.name) row.labels.pairs)

  same_label_values : (name : List ℕ) → label_values name a ≡ label_values name b
  same_label_values name = distinct_flat_map text_cmp_total text_cmp_exact h (values_at name)

  same_series_names : series_names a ≡ series_names b
  same_series_names = distinct_map series_cmp_total series_cmp_exact h series_of

meaning_shuffled : (q : Query) {a b : List Row} → Shuffled a b → meaning q a ≡ meaning q b
meaning_shuffled (query.Types window) h = ap (λ types. answer.Types types) (same_types (filtered_shuffled None window h))
meaning_shuffled (query.LabelNames selector window) h = ap (λ names. answer.Names names) (same_label_names (filtered_shuffled selector window h))
meaning_shuffled (query.Values name selector window) h = ap (λ values. answer.Values values) (same_label_values (filtered_shuffled selector window h) name)
meaning_shuffled (query.Series selector window) h = ap (λ series. answer.Series series) (same_series_names (filtered_shuffled selector window h))
meaning_shuffled (query.Range selector window) h = ap (λ ranges. answer.Range ranges) (same_ranges (kept_shuffled selector window h))
meaning_shuffled (query.Merge selector window) h = same_merge (kept_shuffled selector window h)

-- rows in another order give the same answer
pub same_meaning : (q : Query) (a b : List Row) → IsPermutation a b → meaning q a ≡ meaning q b
same_meaning q a b h = meaning_shuffled q (shuffled_from_permutation a b h)
