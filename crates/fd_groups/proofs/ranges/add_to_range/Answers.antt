use Rattle.std.proofs.Common.{rules, ap, ◌∙◌, ◌≡◌, Some, None, cond, ℤ, [], ◌∷◌}
use Rattle.std.specs.Prelude.{OnOk}
use Rattle.std.specs.Ordering.{is_eq, int_cmp}
use Rattle.std.specs.BTreeMap.{BTreeMap, IsOrdered, get}
use Rattle.std.proofs.lemmas.Result.{on_ok_weaker, on_err_weaker}
use Rattle.fd_kinds.specs.declared.labels.Labels.{Labels}
use Rattle.fd_kinds.specs.declared.row.Row.{Row}
use Rattle.fd_kinds.specs.RowOrder.{labels_cmp}
use Rattle.fd_groups.specs.Additions.{Adds}
use Rattle.fd_groups.specs.Groups.{ArePoints}
use Rattle.fd_groups.proofs.RangeLaws.{ranges_more, ranges_new, ranges_kept}
use Rattle.fd_groups.proofs.ranges.add_to_range.Goals as goal

pub returns-in-Some-clause-ok : goal.returns-in-Some-clause-ok
returns-in-Some-clause-ok c =
    let after : BTreeMap Labels (BTreeMap ℤ ℤ) = c.get_mut.follows.lender c.add_at_time.new.points in
    let rising : IsOrdered labels_cmp after = search rules in
    let there : get labels_cmp c.args.ranges.now c.args.labels.now ≡ Some c.in-Some.points.now = search rules in
    let updates : (q : Labels) → get labels_cmp after q ≡ cond (is_eq (labels_cmp c.args.labels.now q)) (Some c.add_at_time.new.points) (get labels_cmp c.args.ranges.now q) = search rules in
    let adds : OnOk c.add_at_time.result (Adds int_cmp c.args.timestamp c.args.value c.in-Some.points.now c.add_at_time.new.points) = search rules in
    on_ok_weaker c.add_at_time.result
    (λ adds rows row is_labels is_time is_value before.
    ranges_more c.args.ranges.now after rows row c.args.labels.now c.args.timestamp c.args.value c.in-Some.points.now c.add_at_time.new.points rising there updates adds is_labels is_time is_value before)
    adds

pub returns-in-Some-clause-err : goal.returns-in-Some-clause-err
returns-in-Some-clause-err c =
    let after : BTreeMap Labels (BTreeMap ℤ ℤ) = c.get_mut.follows.lender c.add_at_time.new.points in
    let rising : IsOrdered labels_cmp after = search rules in
    let there : get labels_cmp c.args.ranges.now c.args.labels.now ≡ Some c.in-Some.points.now = search rules in
    let updates : (q : Labels) → get labels_cmp after q ≡ cond (is_eq (labels_cmp c.args.labels.now q)) (Some c.add_at_time.new.points) (get labels_cmp c.args.ranges.now q) = search rules in
    on_err_weaker c.add_at_time.result
    (λ same rows before. ranges_kept c.args.ranges.now after rows c.args.labels.now c.in-Some.points.now c.add_at_time.new.points rising there updates same before)
    c.add_at_time.ensures.err

pub returns-in_ok-insert-in-None-clause-ok : goal.returns-in_ok-insert-in-None-clause-ok
returns-in_ok-insert-in-None-clause-ok c =
    let stored : Labels = c.in_ok-share-in-None.field-0 in
    let points : BTreeMap ℤ ℤ = c.in_ok-one_point-in-None.field-0 in
    let none : get labels_cmp c.args.ranges.now c.args.labels.now ≡ None = search rules in
    let updates : (q : Labels) → get labels_cmp c.insert.new.self q ≡ cond (is_eq (labels_cmp stored q)) (Some points) (get labels_cmp c.args.ranges.now q) =
    λ q. c.in_ok-insert-in-None.ensures.updates.0 q ∙ ap (λ m. cond (is_eq (labels_cmp stored q)) (Some points) (get labels_cmp m q)) c.get_mut.follows.holds-at-none in
    let one : (row : Row) → row.timestamp ≡ c.args.timestamp → row.value ≡ c.args.value → ArePoints points (row ∷ []) =
    λ row is_time is_value. c.in_ok-one_point-in-None.ensures row (is_time ∙ search rules) (is_value ∙ search rules) in
    λ rows row is_labels is_time is_value before.
    ranges_new c.args.ranges.now c.insert.new.self rows row c.args.labels.now stored points c.insert.ensures.ordered none (search rules) updates (one row is_time is_value) is_labels before
