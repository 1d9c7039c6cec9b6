use Rattle.std.proofs.Common.{map, take}
use Rattle.fd_shelf.specs.Books.{Each, IsSealed}
use Rattle.fd_shelf.proofs.replacement.first_loose.Given as goal

abbrev pub invariant-loop-at : goal.invariant-loop-at
invariant-loop-at g l = Each IsSealed (map g.P.Held.means (take l.at l.parts))
