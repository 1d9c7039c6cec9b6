use Rattle.std.proofs.Common.{◌≡◌, ◌++◌, map, filter, take}
use Rattle.fd_shelf.specs.Steps.{placed_in, is_level0}
use Rattle.fd_shelf.proofs.picks.pick_level0.Given as goal

abbrev pub invariant-loop-part : goal.invariant-loop-part
invariant-loop-part g l =
    map (λ i. placed_in i.block (g.P.Held.means i.part)) l.picked
    ≡ map (λ i. placed_in i.block (g.P.Held.means i.part)) l.fn.picked
    ++ map (placed_in l.block) (filter (is_level0 l.limit) (map g.P.Held.means (take l.part-index l.parts)))
