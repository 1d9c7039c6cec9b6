use Rattle.fd_device.specs.Disks.{Steps, Reaches}
use Rattle.fd_device.specs.Moments.{moments_weaker, moments_joined}
use Rattle.fd_keeper.specs.Blocks.{log_of}
use Rattle.fd_keeper.specs.Keepers.{Appends}
use Rattle.fd_keeper.proofs.Appending.{first_images, second_images, second_follows}
use Rattle.fd_keeper.proofs.append.append.Goals as goal

pub returns-in_err-write_synced-clause-any_moment : goal.returns-in_err-write_synced-clause-any_moment
returns-in_err-write_synced-clause-any_moment g c = λ honest.
    let d = g.D.Disk in
    let old = c.args.disk.now in
    moments_weaker d.moment d.left_since old c.write_synced.new.disk _ _
    (first_images c.args.block c.args.gate c.args.frame.now (d.seen old) (d.may_leave old) (c.requires.ends honest) (c.requires.durable honest)) (c.write_synced.ensures.any_moment honest)

pub returns-in_err-write_synced-clause-crash : goal.returns-in_err-write_synced-clause-crash
returns-in_err-write_synced-clause-crash g c = λ honest image left.
    let d = g.D.Disk in
    let old = c.args.disk.now in
    first_images c.args.block c.args.gate c.args.frame.now (d.seen old) (d.may_leave old) (c.requires.ends honest) (c.requires.durable honest) image (c.write_synced.ensures.crash honest image left)

pub returns-clause-crash : goal.returns-clause-crash
returns-clause-crash g c = λ honest.
    let d = g.D.Disk in
    let old = c.args.disk.now in
    let mid = c.write_synced.new.disk in
    let one = c.in_ok-write_synced.ensures in
    second_follows c.args.block c.args.gate c.args.frame.now (d.seen old) (d.may_leave old) (c.requires.ends honest) (c.requires.durable honest) (d.seen mid) (d.may_leave mid) (one.done honest) (one.durable honest) (one.crash honest)
    (d.may_leave c.write_synced-2.new.disk) (c.write_synced-2.ensures.crash (one.honesty.0 honest))

pub returns-clause-any_moment : goal.returns-clause-any_moment
returns-clause-any_moment g c = λ honest.
    let d = g.D.Disk in
    let old = c.args.disk.now in
    let mid = c.write_synced.new.disk in
    let one = c.in_ok-write_synced.ensures in
    let P = Reaches (Steps (log_of c.args.block) (Appends c.args.gate c.args.frame.now)) (d.may_leave old) in
    let early = moments_weaker d.moment d.left_since old mid _ P
    (first_images c.args.block c.args.gate c.args.frame.now (d.seen old) (d.may_leave old) (c.requires.ends honest) (c.requires.durable honest)) (one.any_moment honest) in
    let late = moments_weaker d.moment d.left_since mid c.write_synced-2.new.disk _ P
    (second_images c.args.block c.args.gate c.args.frame.now (d.seen old) (d.may_leave old) (c.requires.ends honest) (c.requires.durable honest) (d.seen mid) (d.may_leave mid) (one.done honest) (one.durable honest) (one.crash honest))
    (c.write_synced-2.ensures.any_moment (one.honesty.0 honest)) in
    moments_joined d.moment d.left_since old mid c.write_synced-2.new.disk P early late
