use Rattle.std.proofs.Common.{◌≡◌, ◌++◌, ◌<◌, ◌^◌, sym, ap, ap₂, ◌∙◌, subst, arith, rules, append_assoc}
use Rattle.std.proofs.lemmas.Result.{on_ok_weaker}
use Rattle.fd_thrift.specs.Values.{list}
use Rattle.fd_thrift.specs.Format.{spelling, list_header, items_len, items_kind, items_spelling, Fits}
use Rattle.fd_thrift.specs.View.{view, items_view}
use Rattle.fd_thrift.specs.declared.tree.Tree.{the_lemmas}
use Rattle.fd_thrift.proofs.Lengths.{len_of_items}
use Rattle.fd_thrift.proofs.writer.+write.Goals as goal

pub write_tree-returns-in_ok-push_list_header-in-List-clause-ok :
    goal.write_tree-returns-in_ok-push_list_header-in-List-clause-ok
write_tree-returns-in_ok-push_list_header-in-List-clause-ok t c =
    let trees = c.in-List.trees in
    let seen : view c.args.tree.now ≡ list (items_view trees.items) = rw c.in-List.is (search (rules, the_lemmas)) in
    let size : c.len-in-List.result ≡ items_len (items_view trees.items) = omega (arith, len_of_items trees.items, trees.ok.0, c.len-in-List.ensures) in
    let kind : c.trees_kind.result ≡ items_kind (items_view trees.items) = c.trees_kind.ensures ∙ ap (λ ts. items_kind (items_view ts)) c.deref.ensures.value in
    let header : c.push_list_header.new.out ≡ (c.args.out.now) ++ list_header (items_len (items_view trees.items)) (items_kind (items_view trees.items)) =
    c.in_ok-push_list_header-in-List.ensures ∙ ap₂ (λ n k. (c.args.out.now) ++ list_header n k) size kind in
    on_ok_weaker c.write_items.result (λ e.
    e ∙ ap (λ front. front ++ items_spelling (items_view trees.items)) header
    ∙ append_assoc (c.args.out.now) _ _
    ∙ ap (λ v. (c.args.out.now) ++ spelling v) (sym seen)) c.write_items.ensures.ok

pub write_tree-returns-in_ok-push_list_header-in-List-clause-fits :
    goal.write_tree-returns-in_ok-push_list_header-in-List-clause-fits
write_tree-returns-in_ok-push_list_header-in-List-clause-fits t c =
    let trees = c.in-List.trees in
    let seen : view c.args.tree.now ≡ list (items_view trees.items) = rw c.in-List.is (search (rules, the_lemmas)) in
    let size : items_len (items_view trees.items) < 2 ^ 64 = omega (arith, len_of_items trees.items, trees.ok.0, c.len-in-List.ensures, c.len-in-List.type_inv) in
    on_ok_weaker c.write_items.result (λ e. subst Fits (sym seen) (size, e)) c.write_items.ensures.fits
