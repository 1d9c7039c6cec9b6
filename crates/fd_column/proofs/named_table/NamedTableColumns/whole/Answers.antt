use Rattle.std.proofs.Common.{◌∙◌, ap}
use Rattle.fd_column.specs.Cells.{cell_at, whole_in}
use Rattle.fd_column.proofs.named_table.NamedTableColumns.whole.Goals as goal

pub returns : goal.returns
returns c = c.whole_of_table.ensures ∙ ap (λ rows. whole_in (cell_at rows c.args.column c.args.at)) c.self.view_is
