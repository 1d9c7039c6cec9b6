use Rattle.std.proofs.Common.{◌≤◌, ◌<◌, length, map, drop}
use Rattle.fd_shelf.specs.Books.{Each}
use Rattle.fd_shelf.proofs.queue.place_of.Given as goal

abbrev pub invariant-loop-at : goal.invariant-loop-at
invariant-loop-at g l = (l.at ≤ length l.waiting.items) × Each (λ p. l.number < p.lo) (drop l.at (map g.P.Held.means l.waiting.items))

abbrev pub decreases-loop-at : goal.decreases-loop-at
decreases-loop-at g l = l.at
