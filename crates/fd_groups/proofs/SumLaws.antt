-- Sums of rows by a key, as rows are added, and as they are listed.
use Rattle.std.proofs.Common.{◌≡◌, ℕ, ℤ, pos, ◌+ℤ◌, cond, List, [], ◌∷◌, ◌++◌, map, refl, sym, ◌∙◌, ap, subst, Some, None, unwrap_or}
use Rattle.std.specs.Prelude.{Option}
use Rattle.std.specs.declared.cmp.Ordering.{Ordering}
use Rattle.std.specs.Ordering.{is_eq, int_cmp}
use Rattle.std.specs.Cmp.{IsTotalOrder, int_cmp_total}
use Rattle.std.specs.Cmp.Lexicographic.{lists_total, nat_list_cmp_total}
use Rattle.std.specs.FinMap.{IsAntisymmetric, slice_cmp-IsAntisymmetric, nat_cmp-IsAntisymmetric, int_cmp-IsAntisymmetric}
use Rattle.std.specs.BTreeMap.{BTreeMap, IsOrdered, get}
use Rattle.std.proofs.Math.IntN.{+ℤ_assoc, +ℤ_idl, +ℤ_idr}
use Rattle.fd_kinds.specs.declared.row.Row.{Row}
use Rattle.fd_kinds.specs.declared.query.Point.{Point}
use Rattle.fd_kinds.specs.Meaning.{stack_cmp, value_sum, points_of}
use Rattle.fd_groups.specs.Additions.{Adds, FindsSame}
use Rattle.fd_groups.specs.Groups.{IsGrouped, IsSum, ArePoints}
use Rattle.fd_groups.proofs.GroupLaws.{groups_more, same_groups, groups_listed, IsMore}

abbrev pub Stack : Type 0
Stack = List (List ℕ)

pub stack_cmp_total : IsTotalOrder stack_cmp
stack_cmp_total = lists_total nat_list_cmp_total

pub stack_cmp_exact : IsAntisymmetric stack_cmp
stack_cmp_exact = slice_cmp-IsAntisymmetric (slice_cmp-IsAntisymmetric nat_cmp-IsAntisymmetric)

pub value_sum-push : (rows : List Row) (row : Row) → value_sum (rows ++ row ∷ []) ≡ value_sum rows +ℤ row.value
value_sum-push [] row = +ℤ_idr row.value ∙ sym (+ℤ_idl row.value)
value_sum-push (r ∷ rs) row = ap (λ n. r.value +ℤ n) (value_sum-push rs row) ∙ sym (+ℤ_assoc r.value (value_sum rs) row.value)

pub total_more : (old new : ℤ) (rows : List Row) (row : Row) → new ≡ old +ℤ row.value → old ≡ value_sum rows → new ≡ value_sum (rows ++ row ∷ [])
total_more old new rows row adds before = adds ∙ ap (λ n. n +ℤ row.value) before ∙ sym (value_sum-push rows row)

-- ---- one more row

module _ {K : Type 0} {R : K → K → Ordering} (o : IsTotalOrder R) (exact : IsAntisymmetric R) (key : Row → K) where
  more_by : (before : Option ℤ) (row : Row) → IsMore o exact key IsSum before (unwrap_or before (pos 0) +ℤ row.value) row
  more_by None row = +ℤ_idl row.value ∙ sym (+ℤ_idr row.value)
  more_by (Some x) row = λ rows is. total_more x (x +ℤ row.value) rows row refl is

  pub sums_more : (m n : BTreeMap K ℤ) (rows : List Row) (row : Row) → Adds R (key row) row.value m n → IsGrouped R key IsSum m rows → IsGrouped R key IsSum n (rows ++ row ∷ [])
  sums_more m n rows row adds before =
      groups_more o exact key IsSum m n rows row (unwrap_or (get R m (key row)) (pos 0) +ℤ row.value) adds.rising adds.each (more_by (get R m (key row)) row) before

  pub sums_same : (m n : BTreeMap K ℤ) (rows : List Row) → FindsSame R m n → IsGrouped R key IsSum m rows → IsGrouped R key IsSum n rows
  sums_same m n rows same before = same_groups o exact key IsSum m n rows same.rising same.each before

  -- a value at a key that had none
  pub adds_new : (m a n : BTreeMap K ℤ) (k stored : K) (value w : ℤ) → get R m k ≡ None → FindsSame R m a → stored ≡ k → w ≡ value → IsOrdered R n → ((q : K) → get R n q ≡ cond (is_eq (R stored q)) (Some w) (get R a q)) → Adds R k value m n
  adds_new m a n k stored value w none same is_key is_value rising updates = record {
    rising = rising;
    each = λ q.
        updates q
        ∙ ap (λ s. cond (is_eq (R s q)) (Some w) (get R a q)) is_key
        ∙ ap (λ f. cond (is_eq (R k q)) (Some w) f) (same.each q)
        ∙ ap (λ v. cond (is_eq (R k q)) (Some v) (get R m q)) (is_value ∙ sym (+ℤ_idl value) ∙ ap (λ before. unwrap_or before (pos 0) +ℤ value) (sym none));
  }

pub points_more : (m n : BTreeMap ℤ ℤ) (rows : List Row) (row : Row) → Adds int_cmp row.timestamp row.value m n → ArePoints m rows → ArePoints n (rows ++ row ∷ [])
points_more m n rows row adds before = sums_more int_cmp_total int_cmp-IsAntisymmetric (λ row. row.timestamp) m n rows row adds before

-- the points with the value of one more row
pub points_with : (m n : BTreeMap ℤ ℤ) (timestamp value : ℤ) → Adds int_cmp timestamp value m n → (rows : List Row) (row : Row) → row.timestamp ≡ timestamp → row.value ≡ value → ArePoints m rows → ArePoints n (rows ++ row ∷ [])
points_with m n timestamp value adds rows row is_time is_value before =
    points_more m n rows row (subst (λ t. Adds int_cmp t row.value m n) (sym is_time) (subst (λ v. Adds int_cmp timestamp v m n) (sym is_value) adds)) before

pub points_same : (m n : BTreeMap ℤ ℤ) (rows : List Row) → FindsSame int_cmp m n → ArePoints m rows → ArePoints n rows
points_same m n rows same before = sums_same int_cmp_total int_cmp-IsAntisymmetric (λ row. row.timestamp) m n rows same before

-- ---- the lists

abbrev pub to_point : ℤ × ℤ → Point
to_point e = record { timestamp = e.0; value = e.1 }

pub points_from_map : (m : BTreeMap ℤ ℤ) (rows : List Row) → ArePoints m rows → map to_point m.entries ≡ points_of rows
points_from_map m rows groups =
    groups_listed int_cmp_total int_cmp-IsAntisymmetric (λ row. row.timestamp) IsSum to_point (λ time some. record { timestamp = time; value = value_sum some }) (λ time sum some is. ap (λ n. record { timestamp = time; value = n }) is) m rows groups
