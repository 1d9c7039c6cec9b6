use Rattle.std.proofs.Common.{rules, ap, ◌≡◌, ◌+◌, ◌++◌, ◌∷◌, [], ◌∙◌}
use Rattle.fd_kinds.specs.Parts.{rows_of}
use Rattle.fd_shelf.specs.Histories.{hist, in_row_order}
use Rattle.fd_part.specs.Parts.{part_meaning}
use Rattle.fd_durable.proofs.Views.{rows_of_numbered}
use Rattle.fd_durable.proofs.shelving.add.Goals as goal

pub returns-clause-history : goal.returns-clause-history
returns-clause-history c =
    let book = c.args.shelf.now.book in
    let mark = c.args.shelf.now.mark in
    let next : c.advance.new.self.mark ≡ mark + 1 = search rules in
    let number : (part_meaning c.number.new.self).lo ≡ mark + 1 = ap (λ p. p.lo) c.number.ensures ∙ ap (λ n. n + 1) c.mark.ensures in
    let rows : rows_of (part_meaning c.number.new.self).rows ≡ rows_of (part_meaning c.args.part).rows =
    ap (λ p. rows_of p.rows) c.number.ensures ∙ rows_of_numbered (c.mark.result + 1) (rows_of (part_meaning c.args.part).rows) in
    ap (hist c.advance.new.self.book) next
    ∙ c.advance.ensures.history (mark + 1)
    ∙ c.admit.ensures.next number
    ∙ ap (λ batch. hist book mark ++ in_row_order batch ∷ []) rows
