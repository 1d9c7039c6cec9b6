use Rattle.std.proofs.Common.{ap, ◌∙◌}
use Rattle.fd_wal.specs.Frames.{framed}
use Rattle.fd_wal.proofs.Sizes.{written_payload, short_frame, run_within}
use Rattle.fd_wal.proofs.frame_writer.frame_in.Goals as goal

pub finished-requires-clause-short : goal.finished-requires-clause-short
finished-requires-clause-short g c =
    let f = g.T.Transaction.spelling in
    let xs = c.args.transactions.now in
    let run = c.longest_run-count.ensures.run in
    let count = c.longest_run-count.result.0 in
    short_frame f xs count c.args.first c.put_all.new.out (written_payload f xs count c.args.first c.in_ok-out.out c.put_head.new.out c.put_all.new.out (run_within f xs count run) c.in_ok-out.ensures c.in_ok-put_head.ensures c.in_ok-put_all.ensures.ok) run

pub returns-clause-written : goal.returns-clause-written
returns-clause-written g c =
    let f = g.T.Transaction.spelling in
    let xs = c.args.transactions.now in
    let run = c.longest_run-count.ensures.run in
    let count = c.longest_run-count.result.0 in
    c.finished.ensures ∙ ap framed (written_payload f xs count c.args.first c.in_ok-out.out c.put_head.new.out c.put_all.new.out (run_within f xs count run) c.in_ok-out.ensures c.in_ok-put_head.ensures c.in_ok-put_all.ensures.ok)
