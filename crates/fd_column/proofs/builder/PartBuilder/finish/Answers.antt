use Rattle.std.proofs.Common.{◌∙◌, ap, sym, subst}
use Rattle.std.specs.Prelude.{IsSorted}
use Rattle.fd_column.specs.RowNumbers.{numbered_cmp}
use Rattle.fd_column.specs.Tables.{rows_of_table}
use Rattle.fd_column.proofs.builder.PartBuilder.finish.Goals as goal

pub of-requires-clause-sorted : goal.of-requires-clause-sorted
of-requires-clause-sorted c =
    subst (IsSorted numbered_cmp) (sym (ap rows_of_table c.in_ok-finished_table.ensures ∙ c.self.view_is)) c.requires
