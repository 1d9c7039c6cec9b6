use Rattle.std.proofs.Common.{◌≡◌, ◌*◌, ◌<◌, ◌≤◌, ◌^◌, drop, nat_lt}
use Rattle.fd_thrift.specs.Reader.{varint_at, varint_from}
use Rattle.fd_thrift.proofs.VarintLoop.{finish}
use Rattle.fd_thrift.proofs.numbers.varint_of.Given as goal

abbrev pub invariant-loop-k : goal.invariant-loop-k
invariant-loop-k l = record {
  left : l.left ≤ 64;
  weight : l.weight * 2 ^ l.left ≡ 2 ^ l.bits;
  below : l.value < l.weight;
  so_far : finish l.value l.weight (varint_from (nat_lt 0 l.k) l.left (drop l.k l.bytes)) ≡ varint_at l.bits l.bytes;
}
