use Rattle.fd_parquet.proofs.BuilderLaws.{last_more}
use Rattle.fd_parquet.proofs.row_builder.RowBuilder.with_last.Goals as goal

pub invariant_of-result : goal.invariant_of-result
invariant_of-result c = last_more c.self.inside.rows c.in_ok-rows.rows c.args.next c.in_ok-rows.ensures
