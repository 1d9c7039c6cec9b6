use Rattle.std.proofs.lemmas.Result.{on_ok_weaker}
use Rattle.fd_kinds.specs.RowSpelling.{labels_spelling, stack_spelling, whole_spelling}
use Rattle.fd_wal.proofs.Sizes.{added_seven}
use Rattle.fd_wal.proofs.row_writer.put_fields.Goals as goal

pub returns-clause-ok : goal.returns-clause-ok
returns-clause-ok c =
    let r = c.args.row.now in
    on_ok_weaker c.put_whole-4.result (λ e.
    added_seven c.args.out.now (labels_spelling r.labels.pairs) (whole_spelling r.timestamp) (stack_spelling r.stack) (labels_spelling r.pprof_labels.pairs) (whole_spelling r.period) (whole_spelling r.duration) (whole_spelling r.value)
    c.put_labels.new.out c.put_whole.new.out c.put_stack.new.out c.put_labels-2.new.out c.put_whole-2.new.out c.put_whole-3.new.out c.put_whole-4.new.out
    c.in_ok-put_labels.ensures.ok c.in_ok-put_whole.ensures.ok c.in_ok-put_stack.ensures.ok c.in_ok-put_labels-2.ensures.ok c.in_ok-put_whole-2.ensures.ok c.in_ok-put_whole-3.ensures.ok e)
    c.put_whole-4.ensures.ok
