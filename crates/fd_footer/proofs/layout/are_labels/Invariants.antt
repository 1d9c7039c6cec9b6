use Rattle.std.proofs.Common.{◌≡◌, [], drop}
use Rattle.fd_footer.specs.Layout.{are_labels_above}
use Rattle.fd_footer.proofs.layout.are_labels.Given as goal

-- the answer for the columns that are left is that for all
abbrev pub invariant-loop-column : goal.invariant-loop-column
invariant-loop-column l = are_labels_above l.last (drop l.column-index l.columns) ≡ are_labels_above [] l.columns
