use Rattle.std.proofs.Common.{refl}
use Rattle.fd_table_file.specs.Columns.{HasText}
use Rattle.fd_parquet.proofs.ItemLaws.{all_more, all_done}
use Rattle.fd_parquet.proofs.contents.have_texts.Goals as goal

pub loop-cell-preserved : goal.loop-cell-preserved
loop-cell-preserved c =
    all_more (HasText c.args.column.now) c.args.cells.now c.loop-cell.cell-index c.cell-item.result c.loop-cell-test.true c.cell-item.is (c.has_text.ensures.0 c.if-not-has_text.false) c.loop-cell.invariant

pub returns : goal.returns
returns c = (λ _. all_done (HasText c.args.column.now) c.args.cells.now c.loop-cell.cell-index c.loop-cell-test.false c.loop-cell.invariant, λ _. refl)
