use Rattle.std.proofs.Common.{rules, ◌∙◌, ap, false, Ok}
use Rattle.std.specs.Map.{lookup}
use Rattle.std.specs.BTreeMap.{is_at}
use Rattle.std.specs.Ordering.{int_cmp}
use Rattle.fd_groups.specs.Additions.{FindsSame, AddsWhereFound}
use Rattle.fd_groups.proofs.Outcomes.{on_err}
use Rattle.fd_groups.proofs.SumLaws.{adds_new}
use Rattle.std.specs.Cmp.{int_cmp_total}
use Rattle.std.specs.FinMap.{int_cmp-IsAntisymmetric}
use Rattle.fd_groups.proofs.ranges.add_at_time.Goals as goal

pub returns-in_err-insert-clause-err : goal.returns-in_err-insert-clause-err
returns-in_err-insert-clause-err c =
    let found : AddsWhereFound int_cmp c.args.timestamp c.args.value c.args.points.now (Ok false) c.added.new.sums = search rules in
    on_err c.from_residual-in_err-insert.result (FindsSame int_cmp c.args.points.now c.insert.new.self) record {
      rising = c.insert.ensures.ordered;
      each = λ k. ap (lookup (is_at (int_cmp k))) c.in_err-insert.ensures.err ∙ found.1.each k;
    }

pub returns-in_ok-insert-clause-ok : goal.returns-in_ok-insert-clause-ok
returns-in_ok-insert-clause-ok c =
    let found : AddsWhereFound int_cmp c.args.timestamp c.args.value c.args.points.now (Ok false) c.added.new.sums = search rules in
    adds_new int_cmp_total int_cmp-IsAntisymmetric (λ row. row.timestamp) c.args.points.now c.added.new.sums c.insert.new.self c.args.timestamp _ c.args.value _
    found.0 found.1 (search rules) (search rules) c.insert.ensures.ordered c.in_ok-insert.ensures.updates.0
