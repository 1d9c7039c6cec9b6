use Rattle.fd_merge.proofs.MergeOrder.{right_there, turns_right}
use Rattle.fd_merge.proofs.merger.take_right.Goals as goal

pub move_first-requires-clause-some : goal.move_first-requires-clause-some
move_first-requires-clause-some c = right_there _ _ c.requires.side

pub returns : goal.returns
returns c = turns_right c.row_order_laws.ensures.total _ _ _ _ _ c.requires.side c.requires.left_numbers c.requires.right_numbers c.in_ok-done.ensures
