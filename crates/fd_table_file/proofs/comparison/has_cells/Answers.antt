use Rattle.std.proofs.Common.{◌≡◌, ◌<◌, Some, map, length, true≢false, sym, ap, ◌∙◌, arith}
use Rattle.std.specs.Prelude.{slice_get}
use Rattle.fd_column.specs.Cells.{columns_of}
use Rattle.fd_table_file.specs.Columns.{column_count, column_at, cells_of}
use Rattle.fd_table_file.proofs.Comparisons.{same_more, same_there, list_there, list_is}
use Rattle.fd_table_file.proofs.comparison.has_cells.Goals as goal

pub returns-then-not-has_column : goal.returns-then-not-has_column
unfolding column_count
returns-then-not-has_column c = (
  (λ e. absurd (true≢false (sym e))),
  (λ same.
      let lt : c.loop-column.column < column_count c.args.table.now = omega (arith, c.loop-column-test.true, c.if-cells-len.false, c.len.ensures, ap length c.names.ensures) in
      let there : slice_get (map (λ k. cells_of k c.args.table.now) (columns_of c.args.table.now)) c.loop-column.column ≡ Some c.index-cells-column.result =
      same_there c.args.cells.now (map (λ k. cells_of k c.args.table.now) (columns_of c.args.table.now)) c.loop-column.column c.index-cells-column.result c.loop-column-test.true c.index-cells-column.is same in
      let list : c.index-cells-column.result ≡ cells_of (column_at c.args.table.now c.loop-column.column) c.args.table.now = list_is c.args.table.now c.loop-column.column c.index-cells-column.result lt there in
      absurd (true≢false (sym (c.has_column.ensures.1 (c.as_slice.ensures ∙ list)) ∙ c.if-not-has_column.true))),
)

pub loop-column-preserved : goal.loop-column-preserved
unfolding column_count
loop-column-preserved c =
    let lt : c.loop-column.column < column_count c.args.table.now = omega (arith, c.loop-column-test.true, c.if-cells-len.false, c.len.ensures, ap length c.names.ensures) in
    let list : c.index-cells-column.result ≡ cells_of (column_at c.args.table.now c.loop-column.column) c.args.table.now = sym c.as_slice.ensures ∙ c.has_column.ensures.0 c.if-not-has_column.false in
    same_more c.args.cells.now (map (λ k. cells_of k c.args.table.now) (columns_of c.args.table.now)) c.loop-column.column c.index-cells-column.result c.loop-column-test.true c.index-cells-column.is
    (list_there c.args.table.now c.loop-column.column lt ∙ ap Some (sym list)) c.loop-column.invariant
