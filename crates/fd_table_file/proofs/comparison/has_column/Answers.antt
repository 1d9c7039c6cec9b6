use Rattle.std.proofs.Common.{◌≡◌, length, refl, arith}
use Rattle.fd_table_file.specs.Columns.{cells_of, column_at}
use Rattle.fd_table_file.proofs.ColumnLaws.{cells_length}
use Rattle.fd_table_file.proofs.Comparisons.{same_more, same_all}
use Rattle.fd_table_file.proofs.comparison.has_column.Goals as goal

pub loop-at-preserved : goal.loop-at-preserved
loop-at-preserved c =
    same_more c.args.cells.now (cells_of (column_at c.args.table.now c.args.column) c.args.table.now) c.loop-at.at c.index-cells-at.result c.loop-at-test.true c.index-cells-at.is (c.has_cell.ensures.0 c.if-not-has_cell.false) c.loop-at.invariant

pub returns : goal.returns
returns c =
    let len : length c.args.cells.now ≡ length (cells_of (column_at c.args.table.now c.args.column) c.args.table.now) =
    omega (arith, c.if-cells-len.false, c.len.ensures, cells_length (column_at c.args.table.now c.args.column) c.args.table.now) in
    (λ _. same_all c.args.cells.now (cells_of (column_at c.args.table.now c.args.column) c.args.table.now) c.loop-at.at len c.loop-at-test.false c.loop-at.invariant, λ _. refl)
