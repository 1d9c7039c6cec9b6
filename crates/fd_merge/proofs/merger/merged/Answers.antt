use Rattle.std.proofs.Common.{◌∙◌, sym}
use Rattle.fd_merge.proofs.MergeOrder.{ends_all}
use Rattle.fd_merge.proofs.merger.merged.Goals as goal

pub loop-side-init : goal.loop-side-init
loop-side-init c = record {
  keeps = λ all m. m;
  left_numbers = c.requires.left_numbers;
  right_numbers = c.requires.right_numbers;
}

pub turn-requires-clause-side : goal.turn-requires-clause-side
turn-requires-clause-side c = sym c.side_of.ensures ∙ c.in-Some.is

pub turn-requires-clause-left_numbers : goal.turn-requires-clause-left_numbers
turn-requires-clause-left_numbers c = c.loop-side.invariant.left_numbers

pub turn-requires-clause-right_numbers : goal.turn-requires-clause-right_numbers
turn-requires-clause-right_numbers c = c.loop-side.invariant.right_numbers

pub loop-side-smaller : goal.loop-side-smaller
loop-side-smaller c = c.in_ok-state.ensures.fewer

pub loop-side-preserved : goal.loop-side-preserved
loop-side-preserved c = record {
  keeps = λ all m. c.in_ok-state.ensures.keeps all (c.loop-side.invariant.keeps all m);
  left_numbers = c.in_ok-state.ensures.left_numbers;
  right_numbers = c.in_ok-state.ensures.right_numbers;
}

pub returns : goal.returns
returns c =
    ends_all c.args.state.done c.args.state.left c.args.state.right c.loop-side.state.done c.loop-side.state.left c.loop-side.state.right (sym c.side_of.ensures ∙ c.in_default.is) c.loop-side.invariant.keeps
