use Rattle.std.proofs.Common.{rules, ◌≡◌, ◌∙◌, map}
use Rattle.fd_groups.proofs.SlotLaws.{to_sum, sums_from_map}
use Rattle.fd_groups.proofs.sums.listed_sums.Goals as goal

pub returns : goal.returns
returns c =
    let e : c.loop-stack.list ≡ map (to_sum c.args.sums.now) c.args.slots.entries = search rules in
    λ rows summed. e ∙ sums_from_map c.args.slots c.args.sums.now rows summed
