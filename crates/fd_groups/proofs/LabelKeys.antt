-- The order of labels is total, and labels that tie are equal.
use Rattle.std.proofs.Common.{◌≡◌, List, refl, sym, rules, IsTrue}
use Rattle.std.specs.declared.cmp.Ordering.{Ordering}
use Rattle.std.specs.declared.cmp.Ordering.TheVariants.{Less, Equal, Greater}
use Rattle.std.specs.Ordering.{ordering_then}
use Rattle.std.specs.Cmp.{IsTotalOrder, then_total, on_total, back_total}
use Rattle.std.specs.Cmp.Lexicographic.{nat_list_cmp_total, lists_total}
use Rattle.std.specs.FinMap.{IsAntisymmetric, slice_cmp-IsAntisymmetric, nat_cmp-IsAntisymmetric}
use Rattle.std.proofs.Props.{props}
use mathlib.Core.HLevel.{Σ_prop_path}
use Rattle.fd_kinds.specs.Labels.{are_labels}
use Rattle.fd_kinds.specs.declared.pair.Pair.{Pair}
use Rattle.fd_kinds.specs.declared.labels.Labels.{Labels}
use Rattle.fd_kinds.specs.Pairs.{pair_cmp}
use Rattle.fd_lists.specs.Texts.{text_cmp}
use Rattle.fd_kinds.specs.RowOrder.{labels_cmp}

first_tied : (o p : Ordering) → ordering_then o p ≡ Equal → o ≡ Equal
first_tied Less p e = e
first_tied Equal p e = refl
first_tied Greater p e = e

second_tied : (o p : Ordering) → ordering_then o p ≡ Equal → p ≡ Equal
second_tied Less p e = cc
second_tied Equal p e = e
second_tied Greater p e = cc

pub same_text : IsAntisymmetric text_cmp
same_text = slice_cmp-IsAntisymmetric nat_cmp-IsAntisymmetric

same_pair : IsAntisymmetric pair_cmp
same_pair p q e =
    let n = same_text q.name p.name (first_tied (text_cmp q.name p.name) (text_cmp p.value q.value) e) in
    let v = same_text p.value q.value (second_tied (text_cmp q.name p.name) (text_cmp p.value q.value) e) in
    λ i. record { name = sym n i; value = v i }

same_labels : (a b : Labels) → a.pairs ≡ b.pairs → a ≡ b
same_labels a b e =
    let both : ◌≡◌ {A = (ps : List Pair) × IsTrue (are_labels ps)} (a.pairs, a.in_order) (b.pairs, b.in_order) = Σ_prop_path (λ ps. hlevel props) e in
    λ i. record { pairs = (both i).0; in_order = (both i).1 }

pub labels_cmp_exact : IsAntisymmetric labels_cmp
labels_cmp_exact a b e = same_labels a b (slice_cmp-IsAntisymmetric same_pair a.pairs b.pairs e)

pub labels_cmp_total : IsTotalOrder labels_cmp
labels_cmp_total = search (rules, then_total, on_total, back_total, lists_total, nat_list_cmp_total) depth 30
