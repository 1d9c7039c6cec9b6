use Rattle.std.proofs.Common.{◌≡◌, ◌≤◌, ◌∷◌, [], ◌++◌, List, ap, ◌∙◌, arith}
use Rattle.fd_pages.specs.declared.cell.Cell.{Cell}
use Rattle.fd_table_file.specs.Columns.{cells_of, column_at}
use Rattle.fd_table_file.proofs.ColumnLaws.{part_more}
use Rattle.fd_table_file.proofs.cells.cells_of.Goals as goal

pub loop-at-preserved : goal.loop-at-preserved
loop-at-preserved c =
    let all : List Cell = cells_of (column_at c.args.table.now c.args.column) c.args.table.now in
    let pushed : c.push.new.self ≡ c.loop-at.cells ++ c.in_ok-cell.cell ∷ [] = c.in_ok-push.ensures.ok in
    let begun : c.args.from ≤ c.loop-at.at = omega arith in
    pushed ∙ ap (λ (xs : List Cell). xs ++ c.in_ok-cell.cell ∷ []) c.loop-at.invariant ∙ part_more all c.args.from c.loop-at.at c.in_ok-cell.cell begun c.in_ok-cell.ensures
