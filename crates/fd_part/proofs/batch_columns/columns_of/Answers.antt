use Rattle.std.proofs.Common.{sym, subst}
use Rattle.std.specs.Prelude.{IsSorted}
use Rattle.fd_column.specs.RowNumbers.{numbered_cmp}
use Rattle.fd_part.proofs.Orders.{sorted_with_number}
use Rattle.fd_part.proofs.batch_columns.columns_of.Goals as goal

pub finish-requires : goal.finish-requires
finish-requires c =
    subst (λ rows. IsSorted numbered_cmp rows) (sym c.in_ok-builder.ensures) (sorted_with_number 0 c.args.rows.now c.requires.sorted)
