use Rattle.std.proofs.Common.{◌≡◌, map, take}
use Rattle.fd_pages.specs.Columns.{level}
use Rattle.fd_pages.proofs.levels.levels_of.Given as goal

abbrev pub invariant-loop-cell : goal.invariant-loop-cell
invariant-loop-cell l = l.levels.items ≡ map level (take l.cell-index l.cells)
