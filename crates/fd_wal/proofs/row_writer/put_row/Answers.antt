use Rattle.std.proofs.lemmas.Result.{on_ok_weaker}
use Rattle.fd_kinds.specs.RowSpelling.{text_spelling, labels_spelling, stack_spelling, whole_spelling}
use Rattle.fd_wal.proofs.Sizes.{joined_row}
use Rattle.fd_wal.proofs.row_writer.put_row.Goals as goal

pub returns-clause-ok : goal.returns-clause-ok
returns-clause-ok c =
    let r = c.args.row.now in
    on_ok_weaker c.put_fields.result (λ e.
    joined_row c.args.out.now (text_spelling r.name) (text_spelling r.sample_type) (text_spelling r.sample_unit) (text_spelling r.period_type) (text_spelling r.period_unit)
    (labels_spelling r.labels.pairs) (whole_spelling r.timestamp) (stack_spelling r.stack) (labels_spelling r.pprof_labels.pairs) (whole_spelling r.period) (whole_spelling r.duration) (whole_spelling r.value)
    c.put_texts.new.out c.put_fields.new.out c.in_ok-put_texts.ensures.ok e)
    c.put_fields.ensures.ok
