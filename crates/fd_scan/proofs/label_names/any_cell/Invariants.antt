use Rattle.std.proofs.Common.{◌≡◌, false, take}
use Rattle.fd_scan.specs.LabelNames.{any_cell}
use Rattle.fd_scan.proofs.label_names.any_cell.Given as goal

abbrev pub invariant-loop-at : goal.invariant-loop-at
invariant-loop-at l = any_cell l.cells (take l.at-index l.places) ≡ false
