use Rattle.std.proofs.Common.{◌≡◌, ◌++◌, ◌-◌, ◌<◌}
use Rattle.fd_hybrid.specs.Digits.{number, digits, ahead}
use Rattle.fd_hybrid.proofs.groups.push_digits.Given as goal

abbrev pub invariant-loop : goal.invariant-loop
invariant-loop l = record {
  held : l.bits.count < 32;
  so_far : l.out ++ digits 8 (l.size - l.counter) (ahead l.width l.values l.bits.at l.bits.held l.bits.count) ≡ l.fn.out ++ digits 8 l.size (number l.width l.values);
}
