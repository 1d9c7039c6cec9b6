use Rattle.std.proofs.Common.{◌≡◌, ◌++◌, take, All}
use Rattle.fd_pages.specs.Columns.{Fits, plain_values}
use Rattle.fd_pages.proofs.values.put_values.Given as goal

abbrev pub invariant-loop-cell : goal.invariant-loop-cell
invariant-loop-cell l = (l.out ≡ l.fn.out ++ plain_values (take l.cell-index l.cells)) × All Fits (take l.cell-index l.cells)
