use Rattle.std.proofs.Common.{◌∙◌, ap, sym}
use Rattle.std.specs.Prelude.{Some, option_map}
use Rattle.std.proofs.lemmas.Result.{IfOk-weaker}
use Rattle.fd_kinds.specs.declared.row.Numbered.{Numbered}
use Rattle.fd_column.specs.Tables.{row_at, rows_of_table}
use Rattle.fd_column.proofs.TableLaws.{row_there, row_labels}
use Rattle.fd_column.proofs.TextLaws.{label_texts}
use Rattle.fd_column.proofs.rows.labels_of_table.Goals as goal

pub labels_at-requires-clause-texts : goal.labels_at-requires-clause-texts
labels_at-requires-clause-texts c = label_texts c.args.table.now c.args.at c.requires.inside c.requires.growing

pub labels_at-requires-clause-labels : goal.labels_at-requires-clause-labels
labels_at-requires-clause-labels c =
    let n = row_at c.args.table.now c.args.at in
    let there = row_there c.args.table.now c.args.at c.requires.inside in
    rw (row_labels c.args.table.now (rows_of_table c.args.table.now) c.args.at n c.requires.growing.table there) n.row.labels.in_order

pub returns : goal.returns
returns c =
    IfOk-weaker c.labels_at.result _ _ (λ labels is. ap (option_map (λ (row : Numbered). row.row.labels)) (row_there c.args.table.now c.args.at c.requires.inside) ∙ ap Some (sym is)) c.labels_at.ensures
