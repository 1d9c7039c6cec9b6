use Rattle.std.proofs.Common.{◌≡◌, ap, sym, ◌∙◌, map, rules}
use Rattle.fd_thrift.specs.Values.{list}
use Rattle.fd_thrift.specs.View.{view, items_view}
use Rattle.fd_thrift.specs.declared.tree.Tree.{the_lemmas}
use Rattle.fd_footer.specs.Lookups.{values_of}
use Rattle.fd_footer.proofs.Values.{values_back}
use Rattle.fd_footer.proofs.lookup.trees_of.Goals as goal

pub returns-in-List : goal.returns-in-List
returns-in-List c =
    let seen : view c.args.tree.now ≡ list (items_view c.in-List.trees.items) = rw c.in-List.is (search (rules, the_lemmas)) in
    ap (map view) c.as_slice.ensures.value ∙ sym (values_back (map view c.in-List.trees.items)) ∙ ap values_of (sym seen)
