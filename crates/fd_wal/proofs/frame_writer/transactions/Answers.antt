use Rattle.std.proofs.Common.{◌≡◌, ◌+◌, ◌-◌, drop, arith, ap, ◌∙◌}
use Rattle.std.proofs.lemmas.List.{length-drop}
use Rattle.fd_wal.proofs.BatchRuns.{run_is, frame_is, run_transactions}
use Rattle.fd_wal.proofs.frame_writer.transactions.Goals as goal

pub returns-clause-run : goal.returns-clause-run
returns-clause-run c =
    let from = c.args.from in
    let k : c.in_ok-frame.count ≡ from + c.in_ok-frame.count - from = omega arith in
    run_is c.rest_of-run.result.now (drop from c.args.batches.now) c.in_ok-frame.count _ (c.rest_of-run.ensures ∙ ap (drop from) c.as_slice.ensures) k c.in_ok-frame.ensures.run

pub returns-clause-written : goal.returns-clause-written
returns-clause-written c =
    let from = c.args.from in
    let k : c.in_ok-frame.count ≡ from + c.in_ok-frame.count - from = omega arith in
    c.in_ok-frame.ensures.written
    ∙ frame_is c.rest_of-run.result.now (drop from c.args.batches.now) c.in_ok-frame.count _ c.number_of-first.result (c.rest_of-run.ensures ∙ ap (drop from) c.as_slice.ensures) k c.in_ok-frame.ensures.run.some c.number_of-first.ensures

pub returns-clause-transactions : goal.returns-clause-transactions
returns-clause-transactions c =
    let from = c.args.from in
    let k : c.in_ok-frame.count ≡ from + c.in_ok-frame.count - from = omega arith in
    run_transactions c.rest_of-run.result.now (drop from c.args.batches.now) c.in_ok-frame.count _ _ (c.rest_of-run.ensures ∙ ap (drop from) c.as_slice.ensures) k (omega (arith, length-drop from c.args.batches.now, c.requires.below)) c.in_ok-frame.ensures.run c.in_ok-frame.ensures.sound c.requires.small
