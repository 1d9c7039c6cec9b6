use Rattle.std.proofs.Common.{◌+◌, ℕ, sym, subst}
use Rattle.fd_open.specs.Barriers.{IsDurableFrom}
use Rattle.fd_open.proofs.Repairs.{settled_after}
use Rattle.fd_open.proofs.Openings.{barred_before, barred_after, moments_before, moments_after, durable_from, read_recovers, read_here, opens}
use Rattle.fd_open.proofs.opening.open_in_place.Goals as goal

pub repair-requires-clause-size : goal.repair-requires-clause-size
repair-requires-clause-size g c = λ h_mid.
    let d = g.D.Disk in
    let blocks = c.in-Ok.ensures in
    let h = blocks.quiet.honesty.1 h_mid in
    (read_here d.seen d.may_leave c.args.disk.now c.open_blocks.new.disk c.open_blocks.new.shelf c.in-Ok.tail (blocks.read h) c.active.result c.active.ensures).size

pub returns-in-Err-clause-barred : goal.returns-in-Err-clause-barred
returns-in-Err-clause-barred g c = λ h.
    let d = g.D.Disk in
    barred_before d.honest d.seen d.may_leave d.moment d.left_since c.args.disk.now c.open_blocks.new.disk h c.in-Err.ensures.quiet

pub returns-in_err-repair-clause-barred : goal.returns-in_err-repair-clause-barred
returns-in_err-repair-clause-barred g c = λ h.
    let d = g.D.Disk in
    let blocks = c.in-Ok.ensures in
    let mid = c.open_blocks.new.disk in
    let reads = blocks.read h in
    let here = read_here d.seen d.may_leave c.args.disk.now mid c.open_blocks.new.shelf c.in-Ok.tail reads c.active.result c.active.ensures in
    barred_after d.honest d.seen d.may_leave d.moment d.left_since c.args.disk.now mid c.repair.new.disk h blocks.quiet c.open_blocks.new.shelf c.in-Ok.tail reads
    (c.repair.ensures.any_moment (blocks.quiet.honesty.0 h) reads.closed reads.active here)

pub returns-clause-barred : goal.returns-clause-barred
returns-clause-barred g c = λ h.
    let d = g.D.Disk in
    let blocks = c.in-Ok.ensures in
    let mid = c.open_blocks.new.disk in
    let reads = blocks.read h in
    let here = read_here d.seen d.may_leave c.args.disk.now mid c.open_blocks.new.shelf c.in-Ok.tail reads c.active.result c.active.ensures in
    barred_after d.honest d.seen d.may_leave d.moment d.left_since c.args.disk.now mid c.repair.new.disk h blocks.quiet c.open_blocks.new.shelf c.in-Ok.tail reads
    (c.in_ok-repair.ensures.any_moment (blocks.quiet.honesty.0 h) reads.closed reads.active here)

pub returns-in-Err-clause-any_moment : goal.returns-in-Err-clause-any_moment
returns-in-Err-clause-any_moment g c = λ h settled history is.
    let d = g.D.Disk in
    moments_before d.honest d.seen d.may_leave d.moment d.left_since c.recovery_laws.ensures.alike c.args.disk.now c.open_blocks.new.disk h c.in-Err.ensures.quiet settled history is

pub returns-in_err-repair-clause-any_moment : goal.returns-in_err-repair-clause-any_moment
returns-in_err-repair-clause-any_moment g c = λ h settled history is.
    let d = g.D.Disk in
    let blocks = c.in-Ok.ensures in
    let mid = c.open_blocks.new.disk in
    let reads = blocks.read h in
    let here = read_here d.seen d.may_leave c.args.disk.now mid c.open_blocks.new.shelf c.in-Ok.tail reads c.active.result c.active.ensures in
    moments_after d.honest d.seen d.may_leave d.moment d.left_since c.args.disk.now mid c.repair.new.disk h blocks.quiet c.open_blocks.new.shelf c.in-Ok.tail reads
    c.recovery_laws.ensures.alike c.one_recovery.ensures.history (c.repair.ensures.any_moment (blocks.quiet.honesty.0 h) reads.closed reads.active here) settled history is

pub returns-clause-any_moment : goal.returns-clause-any_moment
returns-clause-any_moment g c = λ h settled history is.
    let d = g.D.Disk in
    let blocks = c.in-Ok.ensures in
    let mid = c.open_blocks.new.disk in
    let reads = blocks.read h in
    let here = read_here d.seen d.may_leave c.args.disk.now mid c.open_blocks.new.shelf c.in-Ok.tail reads c.active.result c.active.ensures in
    moments_after d.honest d.seen d.may_leave d.moment d.left_since c.args.disk.now mid c.repair.new.disk h blocks.quiet c.open_blocks.new.shelf c.in-Ok.tail reads
    c.recovery_laws.ensures.alike c.one_recovery.ensures.history (c.in_ok-repair.ensures.any_moment (blocks.quiet.honesty.0 h) reads.closed reads.active here) settled history is

pub returns-clause-opens : goal.returns-clause-opens
returns-clause-opens g c = λ h.
    let d = g.D.Disk in
    let blocks = c.in-Ok.ensures in
    let old = c.args.disk.now in
    let mid = c.open_blocks.new.disk in
    let shelf = c.open_blocks.new.shelf in
    let reads = blocks.read h in
    let h_mid = blocks.quiet.honesty.0 h in
    let block = c.active.result in
    let here = read_here d.seen d.may_leave old mid shelf c.in-Ok.tail reads block c.active.ensures in
    let done = c.in_ok-repair.ensures in
    opens d.seen d.may_leave old mid shelf c.in-Ok.tail reads block c.active.ensures c.repair.new.disk (blocks.quiet.same h)
    (read_recovers d.honest d.seen d.may_leave d.moment d.left_since old mid c.repair.new.disk h blocks.quiet shelf c.in-Ok.tail reads)
    (done.rests h_mid reads.closed reads.active here) (done.others h_mid) (done.durable h_mid here.durable)

pub returns-clause-settled : goal.returns-clause-settled
returns-clause-settled g c = λ h was.
    let d = g.D.Disk in
    let blocks = c.in-Ok.ensures in
    let old = c.args.disk.now in
    let mid = c.open_blocks.new.disk in
    let shelf = c.open_blocks.new.shelf in
    let reads = blocks.read h in
    let h_mid = blocks.quiet.honesty.0 h in
    let block = c.active.result in
    let here = read_here d.seen d.may_leave old mid shelf c.in-Ok.tail reads block c.active.ensures in
    let done = c.in_ok-repair.ensures in
    settled_after block (d.seen mid) (d.seen c.repair.new.disk) (d.may_leave mid) (d.may_leave c.repair.new.disk) (done.others h_mid) (done.crash h_mid) (done.durable h_mid here.durable)
    (durable_from d.honest d.seen d.may_leave d.moment d.left_since old mid h blocks.quiet (block + 1)
    (subst (λ (n : ℕ). IsDurableFrom (n + 1) (d.seen old) (d.may_leave old)) (sym c.active.ensures) was))
