use Rattle.std.proofs.Common.{◌≡◌, ◌-◌, ◌*◌, ◌++◌, drop}
use Rattle.std.specs.List.{flat_map}
use Rattle.fd_hybrid.specs.Format.{group_bytes, Fit}
use Rattle.fd_hybrid.specs.Packer.{eights}
use Rattle.fd_hybrid.proofs.packer.push_groups.Given as goal

abbrev pub invariant-loop : goal.invariant-loop
invariant-loop l = record {
  fit : Fit l.width l.rest;
  so_far : l.out ++ flat_map (group_bytes l.width) (eights (l.groups - l.counter) l.rest) ≡ l.fn.out ++ flat_map (group_bytes l.width) (eights l.groups l.values);
  left : drop (8 * (l.groups - l.counter)) l.rest ≡ drop (8 * l.groups) l.values;
}
