use Rattle.std.proofs.Common.{◌≡◌, ◌-◌, drop}
use Rattle.fd_thrift.specs.View.{items_view, fields_view}
use Rattle.fd_footer.specs.Shapes.{items_fit, fields_fit}
use Rattle.fd_footer.proofs.shape.+fits.Given as goal

-- the answer for the fields that are left is that for all
abbrev pub invariant-fields_fit-loop-at : goal.invariant-fields_fit-loop-at
invariant-fields_fit-loop-at l =
    fields_fit (l.least - l.at) (drop l.at l.rules) (fields_view (drop l.at l.field-items)) ≡ fields_fit l.least l.rules (fields_view l.field-items)

-- the answer for the items that are left is that for all
abbrev pub invariant-items_fit-loop-tree : goal.invariant-items_fit-loop-tree
invariant-items_fit-loop-tree l =
    items_fit l.shape l.others (items_view (drop l.tree-index l.tree-items)) ≡ items_fit l.fn.first l.others (items_view l.tree-items)
