use Rattle.std.proofs.Common.{sym, ◌∙◌, ap}
use Rattle.std.specs.Ordering.{eq_by_cmp}
use Rattle.std.specs.List.{list_any}
use Rattle.fd_kinds.proofs.Distinct.{distinct_present}
use Rattle.fd_groups.proofs.sets.add_copy.Goals as goal

pub returns-else-not-contains-clause-ok : goal.returns-else-not-contains-clause-ok
returns-else-not-contains-clause-ok g c = λ items held.
    held
    ∙ distinct_present g.met.T.Ord.total items c.args.item.now
    (ap (list_any (eq_by_cmp g.T.Ord.cmp c.args.item.now)) (sym held) ∙ sym c.if-not-contains.ensures)
