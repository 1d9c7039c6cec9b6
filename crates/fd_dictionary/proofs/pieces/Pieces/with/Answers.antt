use Rattle.std.proofs.Common.{length, ◌++◌, ◌∷◌, [], ◌∙◌, ap}
use Rattle.fd_dictionary.proofs.PieceLaws.{cut_push, pieces_push}
use Rattle.fd_dictionary.proofs.pieces.Pieces.with.Goals as goal

pub invariant_of-result : goal.invariant_of-result
invariant_of-result c =
    rw (c.in_ok-extend.ensures.ok, c.in_ok-push.ensures.ok) (cut_push c.self.inside.bytes c.self.inside.ends c.args.piece.now c.len.result (c.len.ensures ∙ ap length c.in_ok-extend.ensures.ok) c.self.invariant)

pub returns : goal.returns
returns c =
    rw (c.in_ok-extend.ensures.ok, c.in_ok-push.ensures.ok) (pieces_push c.self.inside.bytes c.self.inside.ends c.args.piece.now c.len.result (c.len.ensures ∙ ap length c.in_ok-extend.ensures.ok) c.self.invariant ∙ ap (λ ps. ps ++ c.args.piece.now ∷ []) c.self.view_is)
