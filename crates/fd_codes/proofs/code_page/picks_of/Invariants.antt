use Rattle.std.proofs.Common.{◌≡◌, map, take, length, All}
use Rattle.fd_codes.specs.Picks.{picked_cells, IsPick}
use Rattle.fd_codes.proofs.code_page.picks_of.Given as goal

abbrev pub invariant-loop-cell : goal.invariant-loop-cell
invariant-loop-cell l = (picked_cells (map (λ t. t.now) l.texts) l.picks ≡ take l.cell-index l.cells) × All (IsPick l.required (length l.texts)) l.picks
