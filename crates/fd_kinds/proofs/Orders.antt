-- The orders that queries list by are total, and items that tie are equal.
use Rattle.std.proofs.Common.{◌≡◌, true, false, refl, sym, rules}
use Rattle.std.specs.declared.cmp.Ordering.{Ordering}
use Rattle.std.specs.declared.cmp.Ordering.TheVariants.{Less, Equal, Greater}
use Rattle.std.specs.Ordering.{ordering_then, then_cmp, on, bool_cmp}
use Rattle.std.specs.Cmp.{IsTotalOrder, then_total, on_total, back_total, bool_cmp_total}
use Rattle.std.specs.Cmp.Lexicographic.{nat_list_cmp_total, lists_total}
use Rattle.std.specs.FinMap.{IsAntisymmetric, slice_cmp-IsAntisymmetric, nat_cmp-IsAntisymmetric}
use Rattle.fd_kinds.specs.Pairs.{pair_cmp}
use Rattle.fd_lists.specs.Texts.{text_cmp}
use Rattle.fd_kinds.specs.RowOrder.{labels_cmp}
use Rattle.fd_kinds.specs.Meaning.{stack_cmp, type_cmp, series_cmp}
use Rattle.fd_kinds.proofs.RowLaws.{same_labels_of_pairs}

first_tied : (o p : Ordering) → ordering_then o p ≡ Equal → o ≡ Equal
first_tied Less p e = e
first_tied Equal p e = refl
first_tied Greater p e = e

second_tied : (o p : Ordering) → ordering_then o p ≡ Equal → p ≡ Equal
second_tied Less p e = cc
second_tied Equal p e = e
second_tied Greater p e = cc

-- items that tie by R have the same f
record Ties {K J : Type 0} (R : K → K → Ordering) (f : K → J) : Type 0 where
  same : (x y : K) → R x y ≡ Equal → f x ≡ f y

ties_on : {K J : Type 0} (f : K → J) {R : J → J → Ordering} → IsAntisymmetric R → Ties (on f R) f
ties_on f a = record { same = λ x y e. a (f x) (f y) e }

ties_then : {K J L : Type 0} {R S : K → K → Ordering} {f : K → J} {g : K → L} → Ties R f → Ties S g → Ties {J = J × L} (then_cmp R S) (λ x. (f x, g x))
ties_then {R = R} {S = S} r s = record {
  same = λ x y e.
      let a = r.same x y (first_tied (R x y) (S x y) e) in
      let b = s.same x y (second_tied (R x y) (S x y) e) in
      λ i. (a i, b i);
}

-- ---- texts and stacks

pub text_cmp_total : IsTotalOrder text_cmp
text_cmp_total = nat_list_cmp_total

pub text_cmp_exact : IsAntisymmetric text_cmp
text_cmp_exact = slice_cmp-IsAntisymmetric nat_cmp-IsAntisymmetric

pub stack_cmp_total : IsTotalOrder stack_cmp
stack_cmp_total = lists_total nat_list_cmp_total

pub stack_cmp_exact : IsAntisymmetric stack_cmp
stack_cmp_exact = slice_cmp-IsAntisymmetric text_cmp_exact

-- ---- labels

same_pair : IsAntisymmetric pair_cmp
same_pair p q e =
    let n = text_cmp_exact q.name p.name (first_tied (text_cmp q.name p.name) (text_cmp p.value q.value) e) in
    let v = text_cmp_exact p.value q.value (second_tied (text_cmp q.name p.name) (text_cmp p.value q.value) e) in
    λ i. record { name = sym n i; value = v i }

pub labels_cmp_total : IsTotalOrder labels_cmp
labels_cmp_total = search (rules, then_total, on_total, back_total, lists_total, nat_list_cmp_total) depth 30

pub labels_cmp_exact : IsAntisymmetric labels_cmp
labels_cmp_exact a b e = same_labels_of_pairs a b (slice_cmp-IsAntisymmetric same_pair a.pairs b.pairs e)

-- ---- types and series

bool_cmp_exact : IsAntisymmetric bool_cmp
bool_cmp_exact true true e = refl
bool_cmp_exact true false e = cc
bool_cmp_exact false true e = cc
bool_cmp_exact false false e = refl

pub type_cmp_total : IsTotalOrder type_cmp
type_cmp_total = search (rules, then_total, on_total, nat_list_cmp_total, bool_cmp_total) depth 30

pub type_cmp_exact : IsAntisymmetric type_cmp
type_cmp_exact a b e =
    let p =
    (ties_then (ties_on (λ t. t.name) text_cmp_exact) (
    ties_then (ties_on (λ t. t.sample_type) text_cmp_exact) (
    ties_then (ties_on (λ t. t.sample_unit) text_cmp_exact) (
    ties_then (ties_on (λ t. t.period_type) text_cmp_exact) (
    ties_then (ties_on (λ t. t.period_unit) text_cmp_exact)
    (ties_on (λ t. t.delta) bool_cmp_exact)))))).same a b e in
    λ i. record { name = (p i).0; sample_type = (p i).1.0; sample_unit = (p i).1.1.0; period_type = (p i).1.1.1.0; period_unit = (p i).1.1.1.1.0; delta = (p i).1.1.1.1.1 }

pub series_cmp_total : IsTotalOrder series_cmp
series_cmp_total = search (rules, then_total, on_total, nat_list_cmp_total, labels_cmp_total) depth 30

pub series_cmp_exact : IsAntisymmetric series_cmp
series_cmp_exact a b e =
    let p = (ties_then (ties_on (λ s. s.name) text_cmp_exact) (ties_on (λ s. s.labels) labels_cmp_exact)).same a b e in
    λ i. record { name = (p i).0; labels = (p i).1 }
