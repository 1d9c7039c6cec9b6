use Rattle.std.proofs.Common.{◌∙◌, ap}
use Rattle.fd_column.specs.Cells.{cell_at, text_in}
use Rattle.fd_column.proofs.named_table.NamedTableColumns.text.Goals as goal

pub returns : goal.returns
returns c = c.text_of_table.ensures ∙ ap (λ rows. text_in (cell_at rows c.args.column c.args.at)) c.self.view_is
