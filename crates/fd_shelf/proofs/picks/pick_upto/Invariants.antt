use Rattle.std.proofs.Common.{◌≡◌, ◌++◌, map, filter, take}
use Rattle.fd_shelf.specs.Steps.{placed_in, begins_upto}
use Rattle.fd_shelf.proofs.picks.pick_upto.Given as goal

abbrev pub invariant-loop-part : goal.invariant-loop-part
invariant-loop-part g l =
    map (λ i. placed_in i.block (g.P.Held.means i.part)) l.picked
    ≡ map (λ i. placed_in i.block (g.P.Held.means i.part)) l.fn.picked
    ++ filter (begins_upto l.w) (map (placed_in l.block) (map g.P.Held.means (take l.part-index l.parts)))
