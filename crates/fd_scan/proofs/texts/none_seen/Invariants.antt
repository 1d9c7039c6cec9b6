use Rattle.std.proofs.Common.{◌≡◌, ℕ, false, get_or}
use Rattle.fd_scan.proofs.texts.none_seen.Given as goal

abbrev pub invariant-loop : goal.invariant-loop
invariant-loop l = (entry : ℕ) → get_or l.seen.items entry false ≡ false
