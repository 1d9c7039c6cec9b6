use Rattle.std.proofs.Common.{◌≡◌, ◌+◌, ◌-◌, ◌<◌}
use Rattle.fd_hybrid.specs.Digits.{ahead}
use Rattle.fd_hybrid.proofs.groups.value_of.Given as goal

abbrev pub invariant-loop-bits : goal.invariant-loop-bits
invariant-loop-bits l = record {
  few : l.bits.count < l.width + 32;
  same : ahead 8 l.bytes l.bits.at l.bits.held l.bits.count ≡ ahead 8 l.bytes l.initial.bits.at l.initial.bits.held l.initial.bits.count;
}

abbrev pub decreases-loop-bits : goal.decreases-loop-bits
decreases-loop-bits l = l.width - l.bits.count
