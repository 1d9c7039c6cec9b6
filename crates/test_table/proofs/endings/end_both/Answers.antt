use Rattle.std.proofs.Common.{arith}
use Rattle.fd_rule.specs.Seats.{pass_view}
use Rattle.test_table.proofs.SeatSteps.{both_seated}
use Rattle.test_table.proofs.endings.end_both.Goals as goal

pub close-requires-clause-seats : goal.close-requires-clause-seats
close-requires-clause-seats c lives k inside = let two = c.requires.two in
    both_seated (pass_view c.in_ok-all.all) (pass_view c.args.left) (pass_view c.args.right) k c.in_ok-all.ensures.joined c.in_ok-all.all.here c.requires.left_place c.requires.right_place (omega (arith, inside, two))
