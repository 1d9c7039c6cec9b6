use Rattle.std.proofs.Common.{rules, []}
use Rattle.std.specs.Ordering.{int_cmp}
use Rattle.std.specs.Cmp.{int_cmp_total}
use Rattle.std.specs.FinMap.{int_cmp-IsAntisymmetric}
use Rattle.fd_groups.specs.Additions.{Adds}
use Rattle.fd_groups.specs.Groups.{IsSum}
use Rattle.fd_groups.proofs.GroupLaws.{groups_none}
use Rattle.fd_groups.proofs.SumLaws.{points_with}
use Rattle.fd_groups.proofs.ranges.one_point.Goals as goal

pub returns : goal.returns
returns c =
    let adds : Adds int_cmp c.args.timestamp c.args.value c.new-points.result c.add_at_time.new.points = search rules in
    λ row is_time is_value.
    points_with c.new-points.result c.add_at_time.new.points c.args.timestamp c.args.value adds [] row is_time is_value
    (groups_none int_cmp_total int_cmp-IsAntisymmetric (λ row. row.timestamp) IsSum c.new-points.result c.new-points.ensures.empty)
