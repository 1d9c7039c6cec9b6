use Rattle.std.proofs.Common.{◌≡◌, ◌+◌, ◌-◌, ◌^◌, ◌++◌, min, refl, ap, ◌∙◌, arith}
use Rattle.std.specs.Prelude.{Err}
use Rattle.fd_wal.specs.declared.fault.ReadFault.TheVariants.{Malformed}
use Rattle.fd_wal.specs.Frames.{batches_size}
use Rattle.fd_wal.specs.Runs.{rows_in}
use Rattle.fd_wal.proofs.Faults.{one_fault}
use Rattle.fd_wal.proofs.GatheredFrames.{adds_transactions, refuses_unread, refuses_large}
use Rattle.fd_wal.proofs.frame_reader.Gathered.add_transactions.Goals as goal

pub returns-in-Err-clause-refused : goal.returns-in-Err-clause-refused
returns-in-Err-clause-refused c malformed =
    refuses_unread c.args.self.now c.args.bytes.now (λ first all read follows. c.in-Err.ensures.refused (ap Err (one_fault c.in-Err.fault Malformed malformed)) first all read follows)

pub returns-then-size-gt-MOST_LOG_BYTES-clause-refused : goal.returns-then-size-gt-MOST_LOG_BYTES-clause-refused
returns-then-size-gt-MOST_LOG_BYTES-clause-refused c malformed =
    let size : c.size_of.result ≡ min (batches_size (rows_in c.in-Ok.batches)) (2 ^ 64 - 1) = c.size_of.ensures ∙ ap (λ bs. min (batches_size (rows_in bs)) (2 ^ 64 - 1)) c.as_slice.ensures in
    refuses_large c.args.self.now c.args.bytes.now c.args.self.now.next (rows_in c.in-Ok.batches) c.in-Ok.ensures.found (omega (arith, size, c.saturating_add-size.ensures, c.if-size-gt-MOST_LOG_BYTES.true))

pub returns-clause-ok : goal.returns-clause-ok
returns-clause-ok c =
    let size : c.size_of.result ≡ min (batches_size (rows_in c.in-Ok.batches)) (2 ^ 64 - 1) = c.size_of.ensures ∙ ap (λ bs. min (batches_size (rows_in bs)) (2 ^ 64 - 1)) c.as_slice.ensures in
    let sum : c.saturating_add-size.result ≡ c.args.self.now.bytes + batches_size (rows_in c.in-Ok.batches) = omega (arith, size, c.saturating_add-size.ensures, c.if-size-gt-MOST_LOG_BYTES.false) in
    adds_transactions c.args.self.now _ c.args.bytes.now c.in-Ok.batches (λ i. (c.type_inv.bytes i).fits) c.requires.short c.if-self.false c.in-Ok.ensures.found c.in-Ok.ensures.numbered c.in-Ok.ensures.follows
    (omega (arith, sum, c.if-size-gt-MOST_LOG_BYTES.false)) (c.in_ok-append.ensures.items ∙ ap (λ bs. c.args.self.now.batches.items ++ bs) c.into_vec.ensures) (ap (λ n. c.args.self.now.next + n) c.len.ensures) sum refl
