use Rattle.std.proofs.Common.{rules, ◌≡◌, List, length}
use Rattle.fd_kinds.specs.declared.row.Row.{Row}
use Rattle.fd_groups.specs.Groups.{AreSums}
use Rattle.fd_groups.proofs.Outcomes.{on_err}
use Rattle.fd_groups.proofs.SlotLaws.{new_kept, new_more, places_new, sums_left}
use Rattle.fd_groups.proofs.sums.Sums.add_new.Goals as goal

pub invariant_of-self-2 : goal.invariant_of-self-2
invariant_of-self-2 c =
    let at_end : c.len-slot.result ≡ length c.args.self.now.sums.items = search rules in
    record {
      inside = places_new c.args.self.now.slots c.insert.new.self c.args.self.now.sums.items c.push.new.self.items _ c.in_ok-copy.copy c.len-slot.result c.in_ok-insert.ensures.updates.0 at_end c.in_ok-push.ensures.items c.args.self.now.inside;
    }

pub returns-in_err-insert-clause-err : goal.returns-in_err-insert-clause-err
returns-in_err-insert-clause-err c =
    on_err c.from_residual-in_err-insert.result
    ((rows : List Row) → AreSums c.args.self.now.slots c.args.self.now.sums.items c.args.self.now.total rows → AreSums c.insert.new.self c.push.new.self.items c.args.self.now.total rows)
    (λ rows before. sums_left c.args.self.now.slots c.insert.new.self c.args.self.now.sums.items c.push.new.self.items _ c.args.self.now.total c.in_err-insert.ensures.err c.in_ok-push.ensures.items rows before)

pub returns-clause-kept : goal.returns-clause-kept
returns-clause-kept c =
    new_kept c.args.self.now.slots c.insert.new.self c.args.stack.now c.in_ok-copy.copy c.len-slot.result c.in_ok-copy.ensures c.requires c.in_ok-insert.ensures.updates.0

pub returns-clause-ok : goal.returns-clause-ok
returns-clause-ok c =
    let at_end : c.len-slot.result ≡ length c.args.self.now.sums.items = search rules in
    new_more c.args.self.now.slots c.insert.new.self c.args.self.now.sums.items c.push.new.self.items c.args.stack.now c.in_ok-copy.copy c.len-slot.result c.args.value _ c.args.self.now.total _
    c.insert.ensures.ordered c.in_ok-copy.ensures c.requires c.in_ok-insert.ensures.updates.0 at_end c.in_ok-push.ensures.items (search rules) (search rules)
