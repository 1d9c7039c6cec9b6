use Rattle.std.proofs.Common.{◌∙◌, ap, refl, rules, ◌-◌, ◌<◌, ◌≤◌, length, arith}
use Rattle.fd_column.specs.LabelColumns.{labelled_cell}
use Rattle.fd_column.specs.Tables.{row_at, rows_of_table}
use Rattle.fd_column.proofs.TableLaws.{row_there}
use Rattle.fd_column.proofs.CellLaws.{series_text, pprof_text}
use Rattle.fd_column.proofs.cells.text_of_table.Goals as goal

pub returns-then-label-count : goal.returns-then-label-count
returns-then-label-count c =
    let t = c.args.table.now in
    let past : 11 ≤ c.args.column = search rules in
    let inside : c.args.column - 11 < length c.args.table.now.labels = omega (arith, c.if-label-count.true, c.len-count.ensures) in
    c.labelled_text.ensures ∙ series_text t (rows_of_table t) c.args.column (c.args.column - 11) c.args.at (row_at t c.args.at) c.requires.growing.table (row_there t c.args.at c.requires.inside) past refl inside

pub returns-else-label-count : goal.returns-else-label-count
returns-else-label-count c =
    let t = c.args.table.now in
    let past : 11 ≤ c.args.column = search rules in
    let behind : length c.args.table.now.labels ≤ c.args.column - 11 = omega (arith, c.if-label-count.false, c.len-count.ensures) in
    c.labelled_text-else-label-count.ensures
    ∙ ap (λ count. labelled_cell t.pprof_labels (c.args.column - 11 - count) c.args.at) c.len-count.ensures
    ∙ pprof_text t (rows_of_table t) c.args.column (c.args.column - 11) c.args.at (row_at t c.args.at) c.requires.growing.table (row_there t c.args.at c.requires.inside) past refl behind
