use Rattle.std.proofs.Common.{◌∙◌, ap, sym, rules}
use Rattle.std.specs.Prelude.{slice_get}
use Rattle.fd_dictionary.proofs.PieceLaws.{piece_got, no_piece}
use Rattle.fd_dictionary.proofs.pieces.Pieces.get.Goals as goal

pub returns-then-at-ends : goal.returns-then-at-ends
returns-then-at-ends c =
    let got = sym (piece_got c.self.inside.bytes c.self.inside.ends c.args.at (search rules)) ∙ ap (λ ps. slice_get ps c.args.at) c.self.view_is in
    search (rules, got)

pub returns-else-at-ends : goal.returns-else-at-ends
returns-else-at-ends c =
    sym (no_piece c.self.inside.bytes c.self.inside.ends c.args.at (search rules)) ∙ ap (λ ps. slice_get ps c.args.at) c.self.view_is
