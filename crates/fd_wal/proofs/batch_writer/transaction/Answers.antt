use Rattle.std.proofs.Common.{◌≡◌, ◌++◌, length, arith, ap, ◌∙◌}
use Rattle.fd_wal.specs.Frames.{batch_spelling}
use Rattle.fd_wal.proofs.Sizes.{rows_length}
use Rattle.fd_wal.proofs.batch_writer.transaction.Goals as goal

pub returns-clause-size : goal.returns-clause-size
returns-clause-size c =
    let rows = c.args.batch.now.rows in
    let e = rows_length c.row_spelling_laws.ensures.length rows in
    let same : c.put_batch.new.out ≡ batch_spelling rows = c.in_ok-put_batch.ensures.ok ∙ ap (λ t. t ++ batch_spelling rows) (c.reserve.ensures ∙ c.new-out.ensures) in
    let long = ap length same in
    (omega (arith, e, long), omega (arith, e, long, c.requires))
