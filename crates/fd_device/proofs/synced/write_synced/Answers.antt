use Rattle.std.proofs.Common.{length}
use Rattle.fd_device.specs.Disks.{Files, Steps, Torn, Reaches}
use Rattle.fd_device.proofs.DiskSteps.{first_call, then_sync, others_settled, torn_stays}
use Rattle.fd_device.proofs.synced.write_synced.Goals as goal

pub returns-in_err-write_at-clause-any_moment : goal.returns-in_err-write_at-clause-any_moment
returns-in_err-write_at-clause-any_moment g c = λ honest.
    let d = g.D.Disk in
    first_call d.moment d.left_since d.may_leave c.args.disk.now c.write_at.new.self (Steps c.args.file (Torn c.args.at (length c.args.piece.now)))
    (λ (image : Files) left. g.met.D.Disk.only_now c.args.disk.now image honest left) (torn_stays c.args.file c.args.at (length c.args.piece.now)) (c.write_at.ensures.time honest) (c.write_at.ensures.crash honest)

pub returns-clause-any_moment : goal.returns-clause-any_moment
returns-clause-any_moment g c = λ honest.
    let d = g.D.Disk in
    let step = Steps c.args.file (Torn c.args.at (length c.args.piece.now)) in
    let honest_mid = c.write_at.ensures.honesty.0 honest in
    then_sync d.moment d.left_since d.may_leave c.args.disk.now c.write_at.new.self c.sync.new.self (Reaches step (d.may_leave c.args.disk.now))
    (first_call d.moment d.left_since d.may_leave c.args.disk.now c.write_at.new.self step
    (λ (image : Files) left. g.met.D.Disk.only_now c.args.disk.now image honest left) (torn_stays c.args.file c.args.at (length c.args.piece.now)) (c.write_at.ensures.time honest) (c.write_at.ensures.crash honest))
    (c.sync.ensures.time honest_mid) (c.sync.ensures.crash honest_mid) (c.write_at.ensures.crash honest)

pub returns-clause-others_at_any_moment : goal.returns-clause-others_at_any_moment
returns-clause-others_at_any_moment g c = λ honest settled.
    let d = g.D.Disk in
    let step = Steps c.args.file (Torn c.args.at (length c.args.piece.now)) in
    let honest_mid = c.write_at.ensures.honesty.0 honest in
    others_settled d.moment d.left_since d.may_leave c.args.disk.now c.sync.new.self c.args.file (Torn c.args.at (length c.args.piece.now)) (d.seen c.args.disk.now) settled
    (then_sync d.moment d.left_since d.may_leave c.args.disk.now c.write_at.new.self c.sync.new.self (Reaches step (d.may_leave c.args.disk.now))
    (first_call d.moment d.left_since d.may_leave c.args.disk.now c.write_at.new.self step
    (λ (image : Files) left. g.met.D.Disk.only_now c.args.disk.now image honest left) (torn_stays c.args.file c.args.at (length c.args.piece.now)) (c.write_at.ensures.time honest) (c.write_at.ensures.crash honest))
    (c.sync.ensures.time honest_mid) (c.sync.ensures.crash honest_mid) (c.write_at.ensures.crash honest))
