use Rattle.std.proofs.Common.{sym, subst}
use Rattle.fd_rule.specs.Lists.{In}
use Rattle.fd_rule.specs.Tables.{Seated}
use Rattle.fd_pooled.specs.StoreLaws.{in_last}
use Rattle.fd_pooled.proofs.lists.pin_and_list.Goals as goal

pub list-picked-requires-clause-loaded : goal.list-picked-requires-clause-loaded
list-picked-requires-clause-loaded g c lives longer = subst (λ (m : Seated g.row.P.Denot). In c.pin-pin.result.w m.0.seen.marks) (sym c.pin-pin.ensures.me) (in_last c.pin-pin.result.w c.args.seat.now.inner.me.0.seen.marks)
