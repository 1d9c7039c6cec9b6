use Rattle.std.proofs.Common.{◌≡◌, suc, ◌+◌, ◌-◌, ◌<◌, length, refl, sym, ◌∙◌, ap, Ok, arith, rules}
use Rattle.std.proofs.lemmas.Result.{err_from_is_err_and}
use Rattle.fd_thrift.specs.declared.kind.Kind.TheVariants.{List as ListKind}
use Rattle.fd_thrift.specs.Values.{list}
use Rattle.fd_thrift.specs.declared.tree.Tree.{List as ListTree, the_lemmas}
use Rattle.fd_thrift.specs.View.{view, items_view}
use Rattle.fd_thrift.specs.Reader.{value_at}
use Rattle.fd_thrift.proofs.Loops.{item_read, item_refused, items_over, field_read, kind_refused, id_refused, field_refused, fields_over, fields_cut, err_fails, passes, nothing, one_level, seen}
use Rattle.fd_thrift.proofs.reader.+read.Goals as goal

pub list_of-returns-in_err-tree-clause-value : goal.list_of-returns-in_err-tree-clause-value
list_of-returns-in_err-tree-clause-value t c =
    let l = c.loop in
    let p = err_from_is_err_and c.from_residual-in_err-tree.result c.from_residual-in_err-tree.ensures.1 in
    let some : 0 < c.in_ok-size.size - l.counter = omega (arith, c.loop-test.true) in
    rw (p.1, p.2) (passes _ _ _ (λ read. item_refused (value_at c.args.levels c.in_ok-size.kind) l.trees.items _ _ l.rest.now _ some read l.invariant.so_far) c.in_err-tree.ensures.value)

pub list_of-loop-preserved : goal.list_of-loop-preserved
list_of-loop-preserved t c =
    let l = c.loop in
    let one : c.in_ok-size.size - l.counter ≡ suc (c.in_ok-size.size - (l.counter + 1)) = omega (arith, c.loop-test.true) in
    record {
      so_far = rw c.in_ok-push.ensures.items (item_read (value_at c.args.levels c.in_ok-size.kind) l.trees.items c.in_ok-tree.tree _ _ l.rest.now c.in_ok-tree.behind.now _ one c.in_ok-tree.ensures.value l.invariant.so_far);
      shorter = omega (arith, c.in_ok-tree.ensures.shorter, l.invariant.shorter);
    }

pub list_of-returns-clause-value : goal.list_of-returns-clause-value
list_of-returns-clause-value t c =
    let l = c.loop in
    items_over (value_at c.args.levels c.in_ok-size.kind) l.trees.items _ l.rest.now _ (omega (arith, c.loop-test.false)) l.invariant.so_far

pub struct_of-returns-then-header-eq0-clause-value :
    goal.struct_of-returns-then-header-eq0-clause-value
struct_of-returns-then-header-eq0-clause-value t c =
    let l = c.loop-header in
    fields_over (value_at c.args.levels) l.fields.items l.invariant.0 _ _ l.rest.now _ _ c.in-Some.ensures.cases.0 l.invariant.1 c.if-header-eq0.true l.invariant.2

pub struct_of-returns-in_err-kind-clause-value : goal.struct_of-returns-in_err-kind-clause-value
struct_of-returns-in_err-kind-clause-value t c =
    let l = c.loop-header in
    let p = err_from_is_err_and c.from_residual.result c.from_residual.ensures.1 in
    let some : 0 < c.in-Some.header.now = omega (arith, c.if-header-eq0.false) in
    rw (p.1, p.2) (err_fails _ _ (kind_refused (value_at c.args.levels) l.fields.items l.invariant.0 _ _ _ l.rest.now _ _ c.in-Some.ensures.cases.0 l.invariant.1 some (sym c.in_err-kind.ensures) l.invariant.2))

pub struct_of-returns-in_err-id-clause-value : goal.struct_of-returns-in_err-id-clause-value
struct_of-returns-in_err-id-clause-value t c =
    let l = c.loop-header in
    let p = err_from_is_err_and c.from_residual-in_err-id.result c.from_residual-in_err-id.ensures.1 in
    let some : 0 < c.in-Some.header.now = omega (arith, c.if-header-eq0.false) in
    rw (p.1, p.2) (err_fails _ _ (id_refused (value_at c.args.levels) l.fields.items l.invariant.0 _ _ _ _ l.rest.now _ _ c.in-Some.ensures.cases.0 l.invariant.1 some (sym c.in_ok-kind.ensures) (sym c.in_err-id.ensures.value) l.invariant.2))

pub struct_of-returns-in_err-tree-clause-value : goal.struct_of-returns-in_err-tree-clause-value
struct_of-returns-in_err-tree-clause-value t c =
    let l = c.loop-header in
    let p = err_from_is_err_and c.from_residual-in_err-tree.result c.from_residual-in_err-tree.ensures.1 in
    let some : 0 < c.in-Some.header.now = omega (arith, c.if-header-eq0.false) in
    rw (p.1, p.2) (passes _ _ _ (λ read. field_refused (value_at c.args.levels) l.fields.items l.invariant.0 _ _ _ _ _ l.rest.now _ _ c.in-Some.ensures.cases.0 l.invariant.1 some (sym c.in_ok-kind.ensures) (sym c.in_ok-id.ensures.value) read l.invariant.2) c.in_err-tree.ensures.value)

pub struct_of-loop-header-preserved : goal.struct_of-loop-header-preserved
struct_of-loop-header-preserved t c =
    let l = c.loop-header in
    let some : 0 < c.in-Some.header.now = omega (arith, c.if-header-eq0.false) in
    let shorter = c.in_ok-tree.ensures.shorter in
    let left = c.in-Some.ensures.cases.1 in (
      l.invariant.0 - 1,
      omega (arith, shorter, left, l.invariant.1),
      rw c.in_ok-push.ensures.items (field_read (value_at c.args.levels) l.fields.items _ l.invariant.0 _ _ _ _ (view c.in_ok-tree.tree) l.rest.now _ c.in_ok-tree.after.now _ c.in-Some.ensures.cases.0 l.invariant.1 some (sym c.in_ok-kind.ensures) (sym c.in_ok-id.ensures.value) c.in_ok-tree.ensures.value (seen _ c.in_ok-tree.tree (omega (arith, c.in_ok-id.ensures.below))) l.invariant.2),
      omega (arith, shorter, left, l.invariant.3),
      omega (arith, c.in_ok-id.ensures.below),
    )

pub struct_of-returns-clause-value : goal.struct_of-returns-clause-value
struct_of-returns-clause-value t c =
    let l = c.loop-header in
    let none : length l.rest.now ≡ 0 = c.in_default.ensures.cases in
    fields_cut (value_at c.args.levels) l.fields.items l.invariant.0 _ l.rest.now _ (nothing l.rest.now none) l.invariant.2

pub value_of-returns-in_err-trees-in-List-clause-value : goal.value_of-returns-in_err-trees-in-List-clause-value
value_of-returns-in_err-trees-in-List-clause-value t c =
    let p = err_from_is_err_and c.from_residual-in_err-trees-in-List.result c.from_residual-in_err-trees-in-List.ensures.1 in
    rw (p.1, p.2, c.in-List.is) (passes _ _ _ (λ read. one_level c.args.levels ListKind c.args.bytes.now (omega arith) ∙ rw read refl) c.in_err-trees-in-List.ensures.value)

pub value_of-returns-in_ok-trees-in-List-clause-value :
    goal.value_of-returns-in_ok-trees-in-List-clause-value
value_of-returns-in_ok-trees-in-List-clause-value t c =
    let trees = c.in_ok-trees-in-List.trees in
    let seen : list (items_view trees.items) ≡ view (ListTree trees) = search (rules, the_lemmas) in
    rw c.in-List.is (one_level c.args.levels ListKind c.args.bytes.now (omega arith) ∙ rw c.in_ok-trees-in-List.ensures.value (ap (λ v. Ok (v, c.in_ok-trees-in-List.rest.now)) seen))
