use Rattle.std.proofs.Common.{◌≡◌}
use Rattle.fd_rule.specs.View.{first_words}
use Rattle.fd_rule.proofs.opening.opening_words.Given as goal

abbrev pub invariant-loop-at : goal.invariant-loop-at
invariant-loop-at l = l.words.items ≡ first_words l.fn.mark l.fn.synced l.at
