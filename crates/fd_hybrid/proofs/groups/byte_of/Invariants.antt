use Rattle.std.proofs.Common.{◌≡◌, ◌-◌, ◌<◌}
use Rattle.fd_hybrid.specs.Digits.{ahead}
use Rattle.fd_hybrid.proofs.groups.byte_of.Given as goal

abbrev pub invariant-loop-bits : goal.invariant-loop-bits
invariant-loop-bits l = record {
  few : l.bits.count < 40;
  same : ahead l.width l.values l.bits.at l.bits.held l.bits.count ≡ ahead l.width l.values l.initial.bits.at l.initial.bits.held l.initial.bits.count;
}

abbrev pub decreases-loop-bits : goal.decreases-loop-bits
decreases-loop-bits l = 8 - l.bits.count
