use Rattle.std.proofs.Common.{◌≡◌, ◌∙◌, ap, rules, ◌-◌, ◌<◌, ◌≤◌, length, arith}
use Rattle.std.specs.Option.{option_copied}
use Rattle.fd_column.specs.Cells.{column_texts}
use Rattle.fd_column.specs.Tables.{rows_of_table}
use Rattle.fd_column.proofs.ColumnDictionaries.{found, series_found, pprof_found, kind_of_copied, cells_of_copied}
use Rattle.fd_column.proofs.cells.dictionary_of_table.Goals as goal

pub returns-then-label-count : goal.returns-then-label-count
returns-then-label-count c =
    let t = c.args.table.now in
    let past : 11 ≤ c.args.column = search rules in
    let inside : c.args.column - 11 < length c.args.table.now.labels = omega (arith, c.if-label-count.true, c.len-count.ensures) in
    let f = series_found t (rows_of_table t) c.args.column c.requires.table past inside in
    record {
      kind = kind_of_copied c.labelled_cells.result (found t.labels (c.args.column - 11)) c.labelled_cells.ensures ∙ f.kind;
      cells = cells_of_copied (λ cells. cells ≡ column_texts (rows_of_table c.args.table.now) c.args.column) c.labelled_cells.result (found t.labels (c.args.column - 11)) c.labelled_cells.ensures f.cells;
    }

pub returns-else-label-count : goal.returns-else-label-count
returns-else-label-count c =
    let t = c.args.table.now in
    let past : 11 ≤ c.args.column = search rules in
    let behind : length c.args.table.now.labels ≤ c.args.column - 11 = omega (arith, c.if-label-count.false, c.len-count.ensures) in
    let f = pprof_found t (rows_of_table t) c.args.column c.requires.table past behind in
    let same : option_copied c.labelled_cells-else-label-count.result ≡ found t.pprof_labels (c.args.column - 11 - length t.labels) = c.labelled_cells-else-label-count.ensures ∙ ap (λ count. found t.pprof_labels (c.args.column - 11 - count)) c.len-count.ensures in
    record {
      kind = kind_of_copied c.labelled_cells-else-label-count.result (found t.pprof_labels (c.args.column - 11 - length t.labels)) same ∙ f.kind;
      cells = cells_of_copied (λ cells. cells ≡ column_texts (rows_of_table c.args.table.now) c.args.column) c.labelled_cells-else-label-count.result (found t.pprof_labels (c.args.column - 11 - length t.labels)) same f.cells;
    }
