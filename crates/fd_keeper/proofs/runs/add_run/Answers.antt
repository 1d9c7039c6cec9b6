use Rattle.std.proofs.Common.{◌≡◌, ◌+◌, ◌-◌, length, take, drop, arith, sym, subst, ◌∙◌}
use Rattle.std.proofs.lemmas.List.{length-drop, length-take, length-map}
use Rattle.fd_kinds.specs.declared.batch.NumberedBatch.{NumberedBatch}
use Rattle.fd_device.specs.Disks.{Files}
use Rattle.fd_device.specs.Moments.{moments_weaker}
use Rattle.fd_wal.specs.Runs.{rows_in, first_number}
use Rattle.fd_keeper.specs.Blocks.{recovered, Extends}
use Rattle.fd_keeper.proofs.RunSteps.{first_is, consecutive, run_bounds, run_next, extends_front, front_rows}
use Rattle.fd_keeper.proofs.runs.add_run.Goals as goal

pub transactions-requires-clause-consecutive : goal.transactions-requires-clause-consecutive
transactions-requires-clause-consecutive g c = consecutive (c.args.tail.now.synced + 1) (drop c.args.from c.args.batches.now) c.requires.numbered

pub transactions-requires-clause-below : goal.transactions-requires-clause-below
transactions-requires-clause-below g c =
    let long : length (drop c.args.from c.args.batches.now) ≡ length c.args.batches.now - c.args.from = length-drop c.args.from c.args.batches.now in
    let from = c.requires.from in
    let starts : first_number (drop c.args.from c.args.batches.now) ≡ c.args.tail.now.synced + 1 = first_is (c.args.tail.now.synced + 1) (drop c.args.from c.args.batches.now) (omega (arith, long, from)) c.requires.numbered in
    omega (arith, starts, c.requires.below)

pub add_frame-requires-clause-below : goal.add_frame-requires-clause-below
add_frame-requires-clause-below g c =
    let bounds = run_bounds c.args.batches.now c.args.from c.in_ok-frame.next c.requires.from c.in_ok-frame.ensures.run in
    omega (arith, bounds.0, bounds.1, c.requires.below)

pub returns-in_err-add_frame-clause-any_moment : goal.returns-in_err-add_frame-clause-any_moment
returns-in_err-add_frame-clause-any_moment g c = λ honest closed active rests room.
    let d = g.D.Disk in
    let t = c.args.tail.now in
    let from = c.args.from in
    let next = c.in_ok-frame.next in
    let batches = c.args.batches.now in
    let k = next - from in
    let told = c.in_ok-frame.ensures in
    moments_weaker d.moment d.left_since c.args.disk.now c.add_frame.new.disk (Extends (recovered closed active) (rows_in (take k (drop from batches)))) (Extends (recovered closed active) (rows_in (drop from batches)))
    (λ (image : Files) e. extends_front (recovered closed active) (rows_in (drop from batches)) k image (subst (λ l. Extends (recovered closed active) l image) (front_rows (drop from batches) k) e))
    (c.add_frame.ensures.any_moment honest closed active (t.synced + 1) (rows_in (take k (drop from batches))) rests
    (run_next d.seen d.may_leave c.args.disk.now t.block t.gate t.synced closed active rests batches from next c.in_ok-frame.frame c.requires.from c.requires.numbered room told.run told.written told.transactions))

pub returns-clause-any_moment : goal.returns-clause-any_moment
returns-clause-any_moment g c = λ honest closed active rests room.
    let d = g.D.Disk in
    let t = c.args.tail.now in
    let from = c.args.from in
    let next = c.in_ok-frame.next in
    let batches = c.args.batches.now in
    let k = next - from in
    let told = c.in_ok-frame.ensures in
    moments_weaker d.moment d.left_since c.args.disk.now c.add_frame.new.disk (Extends (recovered closed active) (rows_in (take k (drop from batches)))) (Extends (recovered closed active) (rows_in (drop from batches)))
    (λ (image : Files) e. extends_front (recovered closed active) (rows_in (drop from batches)) k image (subst (λ l. Extends (recovered closed active) l image) (front_rows (drop from batches) k) e))
    (c.add_frame.ensures.any_moment honest closed active (t.synced + 1) (rows_in (take k (drop from batches))) rests
    (run_next d.seen d.may_leave c.args.disk.now t.block t.gate t.synced closed active rests batches from next c.in_ok-frame.frame c.requires.from c.requires.numbered room told.run told.written told.transactions))

pub returns-clause-added : goal.returns-clause-added
returns-clause-added g c = λ honest closed active rests room.
    let d = g.D.Disk in
    let t = c.args.tail.now in
    let from = c.args.from in
    let next = c.in_ok-frame.next in
    let batches = c.args.batches.now in
    let k = next - from in
    let told = c.in_ok-frame.ensures in
    let bounds = run_bounds batches from next c.requires.from told.run in
    let long : length (rows_in (take k (drop from batches))) ≡ k =
    length-map (take k (drop from batches)) (λ (b : NumberedBatch). b.batch.rows) ∙ length-take k (drop from batches) ∙ (let size : length (drop from batches) ≡ length batches - from = length-drop from batches in omega (arith, size, bounds.0, bounds.1)) in
    c.in_ok-add_frame.ensures.added honest closed active (t.synced + 1) (rows_in (take k (drop from batches))) rests
    (run_next d.seen d.may_leave c.args.disk.now t.block t.gate t.synced closed active rests batches from next c.in_ok-frame.frame c.requires.from c.requires.numbered room told.run told.written told.transactions)
    (sym long)

pub returns-clause-within : goal.returns-clause-within
returns-clause-within g c = (run_bounds c.args.batches.now c.args.from c.in_ok-frame.next c.requires.from c.in_ok-frame.ensures.run).1

pub returns-clause-further : goal.returns-clause-further
returns-clause-further g c = (run_bounds c.args.batches.now c.args.from c.in_ok-frame.next c.requires.from c.in_ok-frame.ensures.run).0

pub returns-clause-ok : goal.returns-clause-ok
returns-clause-ok g c =
    let bounds = run_bounds c.args.batches.now c.args.from c.in_ok-frame.next c.requires.from c.in_ok-frame.ensures.run in
    let added = c.in_ok-add_frame.ensures.ok in
    omega (arith, bounds.0, bounds.1, added)
