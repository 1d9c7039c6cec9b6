use Rattle.std.proofs.Common.{◌≤◌, length, map, drop}
use Rattle.fd_shelf.specs.Books.{Each, IsLoose}
use Rattle.fd_shelf.proofs.replacement.count_loose.Given as goal

abbrev pub invariant-loop-at : goal.invariant-loop-at
invariant-loop-at g l = (l.at ≤ length l.parts) × Each IsLoose (drop l.at (map g.P.Held.means l.parts))

abbrev pub decreases-loop-at : goal.decreases-loop-at
decreases-loop-at g l = l.at
