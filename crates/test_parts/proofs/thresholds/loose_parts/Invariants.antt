use Rattle.std.proofs.Common.{◌≡◌, []}
use Rattle.test_parts.proofs.thresholds.loose_parts.Given as goal

abbrev pub invariant-loop : goal.invariant-loop
invariant-loop l = l.shelf.book.stragglers ≡ []
