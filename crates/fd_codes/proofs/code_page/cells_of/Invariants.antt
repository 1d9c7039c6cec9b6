use Rattle.std.proofs.Common.{◌≡◌, map, take}
use Rattle.fd_codes.specs.Picks.{picked_cells}
use Rattle.fd_codes.proofs.code_page.cells_of.Given as goal

abbrev pub invariant-loop-pick : goal.invariant-loop-pick
invariant-loop-pick l = l.cells ≡ picked_cells (map (λ t. t.now) l.texts) (take l.pick-index l.picks)
