use Rattle.std.proofs.Common.{◌≡◌, take}
use Rattle.fd_kinds.specs.Parts.{held_bytes}
use Rattle.fd_part.proofs.range_file.sum_of.Given as goal

abbrev pub invariant-loop-at : goal.invariant-loop-at
invariant-loop-at l = l.sum ≡ held_bytes (take l.at l.table)
