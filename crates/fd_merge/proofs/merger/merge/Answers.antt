use Rattle.std.proofs.Common.{◌≡◌, ◌++◌, ◌∙◌, sym, subst}
use Rattle.std.specs.Prelude.{All, IsSorted, IsPermutation}
use Rattle.std.proofs.lemmas.Result.{IfOk-weaker}
use Rattle.fd_column.specs.RowNumbers.{numbered_cmp, IsNumber}
use Rattle.fd_merge.proofs.MergeOrder.{all_merged, all_sorted}
use Rattle.fd_merge.proofs.merger.merge.Goals as goal

pub merged-requires-clause-left_numbers : goal.merged-requires-clause-left_numbers
merged-requires-clause-left_numbers c = subst (All IsNumber) (sym c.in_ok-started.ensures.left_is) c.in_order.ensures.numbers

pub merged-requires-clause-right_numbers : goal.merged-requires-clause-right_numbers
merged-requires-clause-right_numbers c = subst (All IsNumber) (sym c.in_ok-started.ensures.right_is) c.in_order-2.ensures.numbers

pub finish-requires : goal.finish-requires
finish-requires c =
    subst (IsSorted numbered_cmp) (sym c.done.ensures) (all_sorted c.args.left.now c.args.right.now c.in_ok-started.field-0.done c.in_ok-started.field-0.left c.in_ok-started.field-0.right c.in_ok-state.state.done c.in_order.ensures.sorted c.in_order-2.ensures.sorted c.in_ok-started.ensures c.in_ok-state.ensures)

pub returns-clause-rows : goal.returns-clause-rows
returns-clause-rows c =
    let all : IsPermutation (c.args.left.now ++ c.args.right.now) c.in_ok-state.state.done = all_merged c.args.left.now c.args.right.now c.in_ok-started.field-0.done c.in_ok-started.field-0.left c.in_ok-started.field-0.right c.in_ok-state.state.done c.in_order.ensures.sorted c.in_order-2.ensures.sorted c.in_ok-started.ensures c.in_ok-state.ensures in
    IfOk-weaker c.finish.result (λ part. part ≡ c.done.result) (IsPermutation (c.args.left.now ++ c.args.right.now)) (λ part is. subst (IsPermutation (c.args.left.now ++ c.args.right.now)) (sym (is ∙ c.done.ensures)) all) c.finish.ensures

pub returns-clause-sorted : goal.returns-clause-sorted
returns-clause-sorted c =
    let all : IsSorted numbered_cmp c.in_ok-state.state.done = all_sorted c.args.left.now c.args.right.now c.in_ok-started.field-0.done c.in_ok-started.field-0.left c.in_ok-started.field-0.right c.in_ok-state.state.done c.in_order.ensures.sorted c.in_order-2.ensures.sorted c.in_ok-started.ensures c.in_ok-state.ensures in
    IfOk-weaker c.finish.result (λ part. part ≡ c.done.result) (IsSorted numbered_cmp) (λ part is. subst (IsSorted numbered_cmp) (sym (is ∙ c.done.ensures)) all) c.finish.ensures
