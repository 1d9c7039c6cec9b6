use Rattle.std.proofs.Common.{rules, ◌≡◌, ◌∙◌, map}
use Rattle.fd_groups.proofs.RangeLaws.{to_range, ranges_from_map}
use Rattle.fd_groups.proofs.ranges.listed_ranges.Goals as goal

pub returns : goal.returns
returns c =
    let e : c.loop-labels.list ≡ map to_range c.args.ranges.entries = search rules in
    λ rows groups. e ∙ ranges_from_map c.args.ranges rows groups
