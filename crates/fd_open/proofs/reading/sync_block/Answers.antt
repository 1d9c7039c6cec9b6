use Rattle.fd_open.proofs.Calls.{quiet_then}
use Rattle.fd_open.proofs.BlockReads.{three_files, same_durable}
use Rattle.fd_open.proofs.reading.sync_block.Goals as goal

pub returns-in_err-sync_file-2-clause-quiet : goal.returns-in_err-sync_file-2-clause-quiet
returns-in_err-sync_file-2-clause-quiet g c =
    let d = g.D.Disk in
    quiet_then d.honest d.seen d.may_leave d.moment d.left_since c.args.disk.now c.sync_file.new.disk c.sync_file-2.new.disk c.in_ok-sync_file.ensures.quiet c.sync_file-2.ensures.quiet

pub returns-in_err-sync_file-3-clause-quiet : goal.returns-in_err-sync_file-3-clause-quiet
returns-in_err-sync_file-3-clause-quiet g c =
    let d = g.D.Disk in
    quiet_then d.honest d.seen d.may_leave d.moment d.left_since c.args.disk.now c.sync_file-2.new.disk c.sync_file-3.new.disk
    (quiet_then d.honest d.seen d.may_leave d.moment d.left_since c.args.disk.now c.sync_file.new.disk c.sync_file-2.new.disk c.in_ok-sync_file.ensures.quiet c.in_ok-sync_file-2.ensures.quiet)
    c.sync_file-3.ensures.quiet

pub returns-clause-quiet : goal.returns-clause-quiet
returns-clause-quiet g c =
    let d = g.D.Disk in
    quiet_then d.honest d.seen d.may_leave d.moment d.left_since c.args.disk.now c.sync_file-2.new.disk c.sync_file-3.new.disk
    (quiet_then d.honest d.seen d.may_leave d.moment d.left_since c.args.disk.now c.sync_file.new.disk c.sync_file-2.new.disk c.in_ok-sync_file.ensures.quiet c.in_ok-sync_file-2.ensures.quiet)
    c.in_ok-sync_file-3.ensures.quiet

pub returns-clause-durable : goal.returns-clause-durable
returns-clause-durable g c = λ honest.
    let d = g.D.Disk in
    let one = c.in_ok-sync_file.ensures in
    let two = c.in_ok-sync_file-2.ensures in
    let three = c.in_ok-sync_file-3.ensures in
    let files = d.seen c.args.disk.now in
    let last = d.may_leave c.sync_file-3.new.disk in
    let h_one = one.quiet.honesty.0 honest in
    let h_two = two.quiet.honesty.0 h_one in
    let same = one.quiet.same honest in
    let same_two = two.quiet.same h_one in
    three_files c.args.block files last
    (λ image left. one.durable honest image (two.quiet.fewer h_one image (three.quiet.fewer h_two image left)))
    (same_durable _ files (d.seen c.sync_file.new.disk) last same (λ image left. two.durable h_one image (three.quiet.fewer h_two image left)))
    (same_durable _ files (d.seen c.sync_file.new.disk) last same (same_durable _ (d.seen c.sync_file.new.disk) (d.seen c.sync_file-2.new.disk) last same_two (three.durable h_two)))
