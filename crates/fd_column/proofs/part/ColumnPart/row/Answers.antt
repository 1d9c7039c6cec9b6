use Rattle.std.proofs.Common.{◌∙◌, ap, sym}
use Rattle.std.specs.Prelude.{Some, option_map}
use Rattle.fd_column.specs.RowNumbers.{renumber, renumbered}
use Rattle.fd_column.proofs.NumberLaws.{there_kept}
use Rattle.fd_column.proofs.part.ColumnPart.row.Goals as goal

pub returns : goal.returns
returns c =
    sym (there_kept c.self.inside.given c.deref.result.now c.args.self.now c.args.at (ap (λ rows. renumbered c.self.inside.given rows) c.deref.ensures ∙ c.self.view_is))
    ∙ ap (option_map (renumber c.self.inside.given)) c.in_ok-number.ensures
    ∙ ap (λ number. Some (record { number = number; row = c.in_ok-number.field-0.row })) (sym c.unwrap_or.ensures)
