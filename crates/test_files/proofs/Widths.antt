-- Powers of two as shifts give them.
use Rattle.std.proofs.Common.{◌≡◌, ℕ, ◌*◌, ◌%◌, ◌^◌, ◌≤◌, ◌<◌, arith}
use Rattle.std.proofs.lemmas.Nat.{one_shl}

pub one_raised : (k : ℕ) → k ≤ 32 → (1 * 2 ^ k) % 2 ^ 64 ≡ 2 ^ k
one_raised k le = let lt : k < 64 = omega arith in one_shl k 64 lt
