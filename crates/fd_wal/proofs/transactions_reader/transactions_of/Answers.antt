use Rattle.std.proofs.Common.{◌≡◌, ℕ, ap, subst, arith}
use Rattle.std.specs.Prelude.{Some, Err}
use Rattle.std.proofs.lemmas.Bool.{iff_false}
use Rattle.fd_wal.specs.Frames.{Transactions}
use Rattle.fd_wal.specs.Reading.{transactions_at, ended}
use Rattle.fd_wal.specs.Runs.{rows_in}
use Rattle.fd_wal.proofs.Faults.{handed_on, no_reading}
use Rattle.fd_wal.proofs.TransactionReading.{found_batches, may_follow, no_number, no_count, no_place, no_room, no_batch, no_end}
use Rattle.fd_wal.proofs.transactions_reader.transactions_of.Goals as goal

pub returns-in_err-first-clause-refused : goal.returns-in_err-first-clause-refused
returns-in_err-first-clause-refused c malformed =
    let fault = handed_on c.from_residual.result c.in_err-first.field-0.0 c.from_residual.ensures.1 malformed in
    no_number c.args.bytes.now c.args.next (no_reading c.in_err-first.field-0.0 _ fault (rw c.new-cursor.ensures at c.in_err-first.ensures))

pub returns-in_err-count-clause-refused : goal.returns-in_err-count-clause-refused
returns-in_err-count-clause-refused c malformed =
    let fault = handed_on c.from_residual-in_err-count.result c.in_err-count.field-0.0 c.from_residual-in_err-count.ensures.1 malformed in
    no_count c.args.bytes.now c.number.new.self c.in_ok-first.first c.args.next (rw c.new-cursor.ensures at c.in_ok-first.ensures) (no_reading c.in_err-count.field-0.0 _ fault c.in_err-count.ensures)

pub returns-then-not-has_numbers-clause-refused : goal.returns-then-not-has_numbers-clause-refused
returns-then-not-has_numbers-clause-refused c err =
    no_place c.args.bytes.now c.number.new.self c.count.new.self c.in_ok-first.first c.in_ok-count.count c.args.next (rw c.new-cursor.ensures at c.in_ok-first.ensures) c.in_ok-count.ensures (iff_false c.has_numbers.ensures c.if-not-has_numbers.true)

pub returns-then-not-has_room-clause-refused : goal.returns-then-not-has_room-clause-refused
returns-then-not-has_room-clause-refused c err =
    let short = iff_false c.has_room.ensures c.if-not-has_room.true in
    no_room c.args.bytes.now c.number.new.self c.count.new.self c.in_ok-first.first c.in_ok-count.count c.args.next (rw c.new-cursor.ensures at c.in_ok-first.ensures) c.in_ok-count.ensures (omega (arith, short, c.left.ensures))

pub returns-in_err-batches-clause-refused : goal.returns-in_err-batches-clause-refused
returns-in_err-batches-clause-refused c malformed =
    let fault = handed_on c.from_residual-in_err-batches.result c.in_err-batches.field-0.0 c.from_residual-in_err-batches.ensures.1 malformed in
    no_batch c.args.bytes.now c.number.new.self c.count.new.self c.in_ok-first.first c.in_ok-count.count c.args.next (rw c.new-cursor.ensures at c.in_ok-first.ensures) c.in_ok-count.ensures
    (λ all last many each. c.in_err-batches.ensures.refused (ap Err fault) all last many each)

pub returns-then-left-gt0-clause-refused : goal.returns-then-left-gt0-clause-refused
returns-then-left-gt0-clause-refused c err =
    no_end c.args.bytes.now c.number.new.self c.count.new.self c.read_batches.new.cursor c.in_ok-first.first c.in_ok-count.count c.args.next (rows_in c.in_ok-batches.batches) (rw c.new-cursor.ensures at c.in_ok-first.ensures) c.in_ok-count.ensures
    c.in_ok-batches.ensures.found (omega (arith, c.if-left-gt0.true, c.left-2.ensures))

pub returns-clause-found : goal.returns-clause-found
returns-clause-found c =
    let numbers = c.has_numbers.ensures.0 c.if-not-has_numbers.false in
    let room = c.has_room.ensures.0 c.if-not-has_room.false in
    subst (λ (n : ℕ). ended (transactions_at c.args.bytes.now) ≡ Some (Transactions n (rows_in c.in_ok-batches.batches))) numbers.is
    (found_batches c.args.bytes.now c.number.new.self c.count.new.self c.in_ok-first.first c.in_ok-count.count (rows_in c.in_ok-batches.batches) c.read_batches.new.cursor (rw c.new-cursor.ensures at c.in_ok-first.ensures) c.in_ok-count.ensures
    (omega (arith, room, c.left.ensures)) c.in_ok-batches.ensures.found (omega (arith, c.if-left-gt0.false, c.left-2.ensures)))

pub returns-clause-follows : goal.returns-clause-follows
returns-clause-follows c =
    may_follow c.args.next c.in_ok-first.first c.in_ok-count.count (rows_in c.in_ok-batches.batches) c.count.new.self c.read_batches.new.cursor (c.has_numbers.ensures.0 c.if-not-has_numbers.false) c.in_ok-batches.ensures.found c.in_ok-batches.ensures.ordered
