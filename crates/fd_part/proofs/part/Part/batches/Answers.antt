use Rattle.std.proofs.Common.{ap, sym, ◌∙◌, filter}
use Rattle.fd_kinds.specs.Parts.{rows_of}
use Rattle.fd_shelf.specs.Books.{has_number}
use Rattle.fd_shelf.specs.Histories.{in_row_order}
use Rattle.fd_part.specs.Parts.{part_meaning}
use Rattle.fd_part.proofs.part.Part.batches.Goals as goal

pub returns-clause-rows : goal.returns-clause-rows
returns-clause-rows c number =
    c.in_ok-batches.ensures.each number
    ∙ ap (λ rows. in_row_order (rows_of (filter (has_number number) rows))) c.in_ok-table.ensures
    ∙ sym (c.batch_laws.ensures.part (part_meaning c.args.self.now) number)
