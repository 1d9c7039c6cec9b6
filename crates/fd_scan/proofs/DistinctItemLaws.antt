-- Distinct items and the last of them, as items are added.
use Rattle.std.proofs.Common.{rules, ◌≡◌, true, List, [], ◌∷◌, ◌++◌, map, sym, ◌∙◌, ap, subst, Some}
use Rattle.std.specs.Prelude.{Option, IfSome}
use Rattle.std.specs.declared.cmp.Ordering.{Ordering}
use Rattle.std.specs.Cmp.{IsTotalOrder, then_total, on_total, back_total, bool_cmp_total}
use Rattle.std.specs.Cmp.Lexicographic.{nat_list_cmp_total, lists_total}
use Rattle.std.proofs.lemmas.List.{map-append}
use Rattle.fd_kinds.specs.declared.row.Row.{Row}
use Rattle.fd_kinds.specs.Meaning.{type_cmp, series_cmp}
use Rattle.std.specs.List.{list_any}
use Rattle.std.specs.BTreeMap.{is_at}
use Rattle.fd_groups.specs.DistinctItems.{AreDistinct}
use Rattle.fd_kinds.proofs.Distinct.{distinct_present}

module _ {T : Type 0} {R : T → T → Ordering} (o : IsTotalOrder R) where
  -- the last item, once more
  pub distinct_last : (found : List T) (last : Option T) (item : T) (items : List T) → last ≡ Some item → AreDistinct R found last items → AreDistinct R found last (items ++ item ∷ [])
  distinct_last found last item items is before =
      let there : list_any (is_at (R item)) found ≡ true = subst (λ l. IfSome l (λ k. list_any (is_at (R k)) found ≡ true)) is before.among in
      record {
        held = before.held ∙ distinct_present o items item (ap (list_any (is_at (R item))) (sym before.held) ∙ there);
        among = before.among;
      }

-- the items of rows, with that of one more row
pub rows_more : {T : Type 0} {R : T → T → Ordering} (f : Row → T) (found : List T) (last : Option T) (rows : List Row) (row : Row) (item : T) → item ≡ f row → AreDistinct R found last (map f rows ++ item ∷ []) → AreDistinct R found last (map f (rows ++ row ∷ []))
rows_more {R = R} f found last rows row item is held =
    subst (AreDistinct R found last) (ap (λ i. map f rows ++ i ∷ []) is ∙ sym (map-append f rows (row ∷ []))) held

pub type_cmp_total : IsTotalOrder type_cmp
type_cmp_total = search (rules, then_total, on_total, nat_list_cmp_total, bool_cmp_total) depth 30

pub series_cmp_total : IsTotalOrder series_cmp
series_cmp_total = search (rules, then_total, on_total, back_total, lists_total, nat_list_cmp_total) depth 30
