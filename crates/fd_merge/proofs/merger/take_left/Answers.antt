use Rattle.fd_merge.proofs.MergeOrder.{left_there, turns_left}
use Rattle.fd_merge.proofs.merger.take_left.Goals as goal

pub move_first-requires-clause-some : goal.move_first-requires-clause-some
move_first-requires-clause-some c = left_there _ _ c.requires.side

pub returns : goal.returns
returns c = turns_left _ _ _ _ _ c.requires.side c.requires.left_numbers c.requires.right_numbers c.in_ok-done.ensures
