use Rattle.std.proofs.Common.{◌≡◌, ◌-◌}
use Rattle.fd_hybrid.specs.Unpacker.{with_front, groups_at}
use Rattle.fd_hybrid.proofs.unpacker.groups_of.Given as goal

abbrev pub invariant-loop : goal.invariant-loop
invariant-loop l = with_front l.values (groups_at l.width (l.groups - l.counter) l.left l.rest) ≡ with_front l.fn.values (groups_at l.width l.groups l.fn.left l.bytes)
