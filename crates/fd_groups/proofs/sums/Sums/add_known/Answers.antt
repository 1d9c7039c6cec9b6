use Rattle.std.proofs.Common.{rules, ◌≡◌, pos, ◌+ℤ◌, get_or}
use Rattle.std.proofs.Math.ListN.{set}
use Rattle.fd_groups.proofs.SlotLaws.{known_more}
use Rattle.fd_groups.proofs.sums.Sums.add_known.Goals as goal

pub returns-clause-ok : goal.returns-clause-ok
returns-clause-ok c =
    let are : c.add_to_slot.new.sums.items ≡ set c.args.self.now.sums.items c.args.slot (get_or c.args.self.now.sums.items c.args.slot (pos 0) +ℤ c.args.value) = search rules in
    known_more c.args.self.now.slots c.args.self.now.sums.items c.add_to_slot.new.sums.items c.args.slot c.args.value c.args.self.now.total _ are (search rules)
