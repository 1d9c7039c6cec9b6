-- Ranges, as rows are added, and as they are listed.
use Rattle.std.proofs.Common.{◌≡◌, ℤ, cond, List, [], ◌∷◌, ◌++◌, map, sym, ◌∙◌, ap, subst, Some, None}
use Rattle.std.specs.Ordering.{is_eq, int_cmp}
use Rattle.std.specs.BTreeMap.{BTreeMap, IsOrdered, get}
use Rattle.fd_kinds.specs.declared.row.Row.{Row}
use Rattle.fd_kinds.specs.declared.labels.Labels.{Labels}
use Rattle.fd_kinds.specs.declared.query.OneRange.{OneRange}
use Rattle.fd_kinds.specs.RowOrder.{labels_cmp}
use Rattle.fd_kinds.specs.Meaning.{ranges_of, points_of}
use Rattle.fd_groups.specs.Additions.{Adds, FindsSame}
use Rattle.fd_groups.specs.Groups.{ArePoints, AreRanges}
use Rattle.fd_groups.proofs.GroupLaws.{IsMore, groups_more, groups_replaced, groups_listed}
use Rattle.fd_groups.proofs.LabelKeys.{labels_cmp_total, labels_cmp_exact}
use Rattle.fd_groups.proofs.SumLaws.{points_with, points_same, points_from_map, to_point}

abbrev Points : Type 0
Points = BTreeMap ℤ ℤ

abbrev labels_of : Row → Labels
labels_of row = row.labels

-- a value at a time of labels that were there
pub ranges_more : (m n : BTreeMap Labels Points) (rows : List Row) (row : Row) (labels : Labels) (timestamp value : ℤ) (x y : Points)
    → IsOrdered labels_cmp n
    → get labels_cmp m labels ≡ Some x
    → ((q : Labels) → get labels_cmp n q ≡ cond (is_eq (labels_cmp labels q)) (Some y) (get labels_cmp m q))
    → Adds int_cmp timestamp value x y
    → row.labels ≡ labels → row.timestamp ≡ timestamp → row.value ≡ value
    → AreRanges m rows → AreRanges n (rows ++ row ∷ [])
ranges_more m n rows row labels timestamp value x y rising is updates adds is_labels is_time is_value before =
    groups_more labels_cmp_total labels_cmp_exact labels_of ArePoints m n rows row y rising
    (λ q. updates q ∙ ap (λ l. cond (is_eq (labels_cmp l q)) (Some y) (get labels_cmp m q)) (sym is_labels))
    (subst (λ found. IsMore labels_cmp_total labels_cmp_exact labels_of ArePoints found y row) (sym (ap (get labels_cmp m) is_labels ∙ is)) (λ some points. points_with x y timestamp value adds some row is_time is_value points))
    before

-- labels that were not there
pub ranges_new : (m n : BTreeMap Labels Points) (rows : List Row) (row : Row) (labels stored : Labels) (y : Points)
    → IsOrdered labels_cmp n
    → get labels_cmp m labels ≡ None
    → stored ≡ labels
    → ((q : Labels) → get labels_cmp n q ≡ cond (is_eq (labels_cmp stored q)) (Some y) (get labels_cmp m q))
    → ArePoints y (row ∷ [])
    → row.labels ≡ labels
    → AreRanges m rows → AreRanges n (rows ++ row ∷ [])
ranges_new m n rows row labels stored y rising none is_stored updates points is_labels before =
    groups_more labels_cmp_total labels_cmp_exact labels_of ArePoints m n rows row y rising
    (λ q. updates q ∙ ap (λ s. cond (is_eq (labels_cmp s q)) (Some y) (get labels_cmp m q)) (is_stored ∙ sym is_labels))
    (subst (λ found. IsMore labels_cmp_total labels_cmp_exact labels_of ArePoints found y row) (sym (ap (get labels_cmp m) is_labels ∙ none)) points)
    before

-- points that find the same
pub ranges_kept : (m n : BTreeMap Labels Points) (rows : List Row) (labels : Labels) (x y : Points)
    → IsOrdered labels_cmp n
    → get labels_cmp m labels ≡ Some x
    → ((q : Labels) → get labels_cmp n q ≡ cond (is_eq (labels_cmp labels q)) (Some y) (get labels_cmp m q))
    → FindsSame int_cmp x y
    → AreRanges m rows → AreRanges n rows
ranges_kept m n rows labels x y rising is updates same before =
    groups_replaced labels_cmp_total labels_cmp_exact labels_of ArePoints m n rows labels x y rising is updates (λ some points. points_same x y some same points) before

abbrev pub to_range : Labels × Points → OneRange
to_range e = record { labels = e.0; points = map to_point e.1.entries }

pub ranges_from_map : (m : BTreeMap Labels Points) (rows : List Row) → AreRanges m rows → map to_range m.entries ≡ ranges_of rows
ranges_from_map m rows groups =
    groups_listed labels_cmp_total labels_cmp_exact labels_of ArePoints to_range (λ labels some. record { labels = labels; points = points_of some }) (λ labels points some are. ap (λ l. record { labels = labels; points = l }) (points_from_map points some are)) m rows groups
