use Rattle.std.proofs.Common.{◌++◌, [], ◌∷◌, map}
use Rattle.fd_shelf.proofs.Spans.{block_fits}
use Rattle.fd_shelf.proofs.shelf.Shelf.span.Goals as goal

pub span_of-requires-after_bounds : goal.span_of-requires-after_bounds
span_of-requires-after_bounds g c κs within =
    block_fits (c.self.inside.blocks.closed ++ c.self.inside.blocks.active ∷ []) c.args.block (map g.P.Held.means c.in_ok-block.field-0.now) c.self.invariant.0.well_formed.light c.in_ok-block.ensures
