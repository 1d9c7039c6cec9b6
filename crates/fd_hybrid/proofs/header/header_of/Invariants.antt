use Rattle.std.proofs.Common.{◌≡◌, ℕ, ◌-◌, ◌^◌, min, drop}
use Rattle.fd_hybrid.specs.Unpacker.{header_at}
use Rattle.fd_hybrid.proofs.Headers.{part, finish}
use Rattle.fd_hybrid.proofs.header.header_of.Given as goal

abbrev pub invariant-loop-k : goal.invariant-loop-k
invariant-loop-k l = record {
  weight : l.weight ≡ min (128 ^ l.k) (2 ^ 128 - 1);
  so_far : (exact : ℕ) × (l.number ≡ min exact (2 ^ 128 - 1)) × (finish exact (128 ^ l.k) (part l.k (drop l.k l.bytes)) ≡ header_at l.bytes);
}
