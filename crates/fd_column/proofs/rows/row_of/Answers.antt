use Rattle.std.proofs.Common.{◌∙◌, sym}
use Rattle.std.specs.Prelude.{Some}
use Rattle.fd_column.specs.Tables.{row_at, rows_of_table}
use Rattle.fd_column.proofs.TableLaws.{row_there, row_labels, row_pprof_labels}
use Rattle.fd_column.proofs.TextLaws.{texts_there, label_texts, pprof_label_texts}
use Rattle.fd_column.proofs.rows.row_of.Goals as goal

pub fields_of-requires-clause-labels : goal.fields_of-requires-clause-labels
fields_of-requires-clause-labels c =
    let n = row_at c.args.table.now c.args.at in
    let there = row_there c.args.table.now c.args.at c.requires.inside in
    rw (row_labels c.args.table.now (rows_of_table c.args.table.now) c.args.at n c.requires.growing.table there) n.row.labels.in_order

pub fields_of-requires-clause-pprof_labels : goal.fields_of-requires-clause-pprof_labels
fields_of-requires-clause-pprof_labels c =
    let n = row_at c.args.table.now c.args.at in
    let there = row_there c.args.table.now c.args.at c.requires.inside in
    rw (row_pprof_labels c.args.table.now (rows_of_table c.args.table.now) c.args.at n c.requires.growing.table there) n.row.pprof_labels.in_order

pub fields_of-requires-clause-label_texts : goal.fields_of-requires-clause-label_texts
fields_of-requires-clause-label_texts c = label_texts c.args.table.now c.args.at c.requires.inside c.requires.growing

pub fields_of-requires-clause-pprof_label_texts : goal.fields_of-requires-clause-pprof_label_texts
fields_of-requires-clause-pprof_label_texts c = pprof_label_texts c.args.table.now c.args.at c.requires.inside c.requires.growing

pub fields_of-requires-clause-texts : goal.fields_of-requires-clause-texts
fields_of-requires-clause-texts c = texts_there c.args.table.now c.args.at c.requires.inside c.requires.growing

pub returns : goal.returns
returns c =
    row_there c.args.table.now c.args.at c.requires.inside
    ∙ (λ i. Some (record { number = sym c.batch_number-number.ensures i; row = sym c.in_ok-row.ensures i }))
