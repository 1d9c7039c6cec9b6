use Rattle.std.proofs.Common.{◌≡◌, ◌+◌, ◌-◌, length, drop, arith, ap, ◌∙◌}
use Rattle.std.proofs.lemmas.List.{length-drop, length-map}
use Rattle.std.proofs.lemmas.List.Elements.{All-take}
use Rattle.fd_wal.specs.Frames.{IsBatch, batch_spelling}
use Rattle.fd_wal.proofs.BatchRuns.{spelled_run, spelled_frame, are_transactions}
use Rattle.fd_wal.proofs.frame_writer.spelled_transactions.Goals as goal

pub returns-clause-written : goal.returns-clause-written
returns-clause-written c = λ batches e.
    let from = c.args.from in
    let k : c.in_ok-frame.count ≡ from + c.in_ok-frame.count - from = omega arith in
    c.in_ok-frame.ensures.written ∙ spelled_frame c.rest_of-run.result.now batches c.in_ok-frame.count _ c.args.first ((c.rest_of-run.ensures ∙ ap (drop from) c.as_slice.ensures) ∙ e) k

pub returns-clause-transactions : goal.returns-clause-transactions
returns-clause-transactions c = λ batches e each.
    let from = c.args.from in
    let n = from + c.in_ok-frame.count - from in
    let k : c.in_ok-frame.count ≡ n = omega arith in
    let run = spelled_run c.rest_of-run.result.now batches c.in_ok-frame.count n ((c.rest_of-run.ensures ∙ ap (drop from) c.as_slice.ensures) ∙ e) k c.in_ok-frame.ensures.run in
    let count = length-map batches batch_spelling in
    let long = ap length e in
    are_transactions c.args.first batches n (omega (arith, count, long, length-drop from c.args.spellings.now, c.requires.below)) run (All-take IsBatch n batches each)
