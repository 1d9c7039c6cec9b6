use Rattle.std.proofs.Common.{refl, codes}
use Rattle.fd_footer.specs.declared.footer.ColumnType.TheVariants.{ByteArray}
use Rattle.fd_parquet.proofs.TextLaws.{text_utf8, stack_utf8}
use Rattle.fd_parquet.proofs.rows.row_at.Goals as goal

pub text_at-requires : goal.text_at-requires
text_at-requires c = text_utf8 c.args.columns.now c.args.cells.now 1 c.args.at (codes "name", ByteArray) c.requires.own c.requires.texts refl refl

pub text_at-requires-2 : goal.text_at-requires-2
text_at-requires-2 c = text_utf8 c.args.columns.now c.args.cells.now 2 c.args.at (codes "sample_type", ByteArray) c.requires.own c.requires.texts refl refl

pub text_at-requires-3 : goal.text_at-requires-3
text_at-requires-3 c = text_utf8 c.args.columns.now c.args.cells.now 3 c.args.at (codes "sample_unit", ByteArray) c.requires.own c.requires.texts refl refl

pub text_at-requires-4 : goal.text_at-requires-4
text_at-requires-4 c = text_utf8 c.args.columns.now c.args.cells.now 4 c.args.at (codes "period_type", ByteArray) c.requires.own c.requires.texts refl refl

pub text_at-requires-5 : goal.text_at-requires-5
text_at-requires-5 c = text_utf8 c.args.columns.now c.args.cells.now 5 c.args.at (codes "period_unit", ByteArray) c.requires.own c.requires.texts refl refl

pub stack_at-requires : goal.stack_at-requires
stack_at-requires c = stack_utf8 c.args.columns.now c.args.cells.now 7 c.args.at (codes "stack", ByteArray) c.requires.own c.requires.texts refl refl
