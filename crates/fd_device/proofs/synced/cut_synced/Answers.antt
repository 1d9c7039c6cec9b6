use Rattle.fd_device.specs.Disks.{Files, Steps, Cut}
use Rattle.fd_device.proofs.DiskSteps.{first_call, others_settled, cut_stays}
use Rattle.fd_device.proofs.synced.cut_synced.Goals as goal

pub returns-in_err-cut-clause-any_moment : goal.returns-in_err-cut-clause-any_moment
returns-in_err-cut-clause-any_moment g c = λ honest.
    let d = g.D.Disk in
    first_call d.moment d.left_since d.may_leave c.args.disk.now c.cut.new.self (Steps c.args.file (Cut c.args.size))
    (λ (image : Files) left. g.met.D.Disk.only_now c.args.disk.now image honest left) (cut_stays c.args.file c.args.size) (c.cut.ensures.time honest) (c.cut.ensures.crash honest)

pub returns-in_err-cut-clause-others_at_any_moment : goal.returns-in_err-cut-clause-others_at_any_moment
returns-in_err-cut-clause-others_at_any_moment g c = λ honest settled.
    let d = g.D.Disk in
    others_settled d.moment d.left_since d.may_leave c.args.disk.now c.cut.new.self c.args.file (Cut c.args.size) (d.seen c.args.disk.now) settled
    (first_call d.moment d.left_since d.may_leave c.args.disk.now c.cut.new.self (Steps c.args.file (Cut c.args.size))
    (λ (image : Files) left. g.met.D.Disk.only_now c.args.disk.now image honest left) (cut_stays c.args.file c.args.size) (c.cut.ensures.time honest) (c.cut.ensures.crash honest))
