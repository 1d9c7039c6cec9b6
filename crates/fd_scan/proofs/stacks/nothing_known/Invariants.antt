use Rattle.std.proofs.Common.{◌≡◌, ℕ, None, get_or}
use Rattle.fd_scan.proofs.stacks.nothing_known.Given as goal

abbrev pub invariant-loop : goal.invariant-loop
invariant-loop l = (entry : ℕ) → get_or l.known.items entry None ≡ None
