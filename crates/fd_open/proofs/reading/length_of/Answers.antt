use Rattle.fd_open.proofs.Calls.{quiet_call}
use Rattle.fd_open.proofs.reading.length_of.Goals as goal

pub returns-clause-quiet : goal.returns-clause-quiet
returns-clause-quiet g c =
    let d = g.D.Disk in
    let s = c.length.ensures in
    quiet_call d.honest d.seen d.may_leave d.moment d.left_since g.met.D.Disk.only_now c.args.disk.now c.length.new.self s.honesty s.seen s.crash s.time
