use Rattle.std.proofs.Common.{ap, sym, ◌∙◌, map}
use Rattle.fd_shelf.proofs.Places.{map_insert}
use Rattle.fd_shelf.proofs.queue.wait.Goals as goal

pub returns-clause-parts : goal.returns-clause-parts
returns-clause-parts g c =
    ap (map g.P.Held.means) c.insert_at.ensures.items
    ∙ map_insert g.P.Held.means c.args.waiting.now.items c.place_of-at.result c.args.part
    ∙ c.place_of-at.ensures.place (g.P.Held.means c.args.part) (sym c.lo.ensures)
