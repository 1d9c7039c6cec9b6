use Rattle.std.proofs.Common.{List, subst, sym}
use Rattle.std.specs.Prelude.{IsSorted}
use Rattle.fd_kinds.specs.declared.row.Numbered.{Numbered}
use Rattle.fd_column.specs.RowNumbers.{numbered_cmp}
use Rattle.fd_parquet.proofs.row_builder.RowBuilder.finish.Goals as goal

pub finish-requires : goal.finish-requires
finish-requires c = subst (λ (rows : List Numbered). IsSorted numbered_cmp rows) (sym c.self.view_is) c.requires
