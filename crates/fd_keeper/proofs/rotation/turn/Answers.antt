use Rattle.fd_device.specs.Disks.{Reaches}
use Rattle.fd_device.specs.Moments.{moments_joined, moments_weaker}
use Rattle.fd_keeper.specs.Blocks.{recovered, RecoversTo}
use Rattle.fd_keeper.specs.Keepers.{OthersAt}
use Rattle.fd_keeper.proofs.Rotations.{cleared_images, rests_cleared, ending_images, making_images, rests_turned, log_kept, durable_kept, clearing_others, ending_others, making_others}
use Rattle.fd_keeper.proofs.rotation.turn.Goals as goal

pub append-requires-clause-ends : goal.append-requires-clause-ends
append-requires-clause-ends g c = λ honest_mid.
    let d = g.D.Disk in
    let honest = c.in_ok-clear.ensures.honesty.1 honest_mid in
    log_kept c.args.block c.args.gate (d.seen c.args.disk.now) (d.seen c.clear.new.disk) (c.in_ok-clear.ensures.same honest) (c.requires.ends honest)

pub append-requires-clause-durable : goal.append-requires-clause-durable
append-requires-clause-durable g c = λ honest_mid.
    let d = g.D.Disk in
    let honest = c.in_ok-clear.ensures.honesty.1 honest_mid in
    let one = c.in_ok-clear.ensures in
    durable_kept c.args.block (d.seen c.args.disk.now) (d.seen c.clear.new.disk) (d.may_leave c.args.disk.now) (d.may_leave c.clear.new.disk) (one.same honest) (one.crash honest) (c.requires.durable honest)

pub returns-in_err-clear-clause-any_moment : goal.returns-in_err-clear-clause-any_moment
returns-in_err-clear-clause-any_moment g c = λ honest closed active synced hi rests last.
    let d = g.D.Disk in
    let block = c.args.block in
    let gate = c.args.gate in
    let old = c.args.disk.now in
    let cleared = c.clear.new.disk in
    let P = RecoversTo (recovered closed active) in
    let one = c.clear.ensures in
    let first = moments_weaker d.moment d.left_since old cleared _ P (cleared_images d.seen d.may_leave block gate synced closed active old rests) (one.any_moment honest) in
    first

pub returns-in_err-append-clause-any_moment : goal.returns-in_err-append-clause-any_moment
returns-in_err-append-clause-any_moment g c = λ honest closed active synced hi rests last.
    let d = g.D.Disk in
    let block = c.args.block in
    let gate = c.args.gate in
    let old = c.args.disk.now in
    let cleared = c.clear.new.disk in
    let P = RecoversTo (recovered closed active) in
    let one = c.in_ok-clear.ensures in
    let first = moments_weaker d.moment d.left_since old cleared _ P (cleared_images d.seen d.may_leave block gate synced closed active old rests) (one.any_moment honest) in
    let honest_cleared = one.honesty.0 honest in
    let rests_mid = rests_cleared d.seen d.may_leave block gate synced closed active old cleared rests (one.same honest) (one.crash honest) in
    let appended = c.append.new.disk in
    let two = c.append.ensures in
    let second = moments_weaker d.moment d.left_since cleared appended _ P (ending_images d.seen d.may_leave block gate synced closed active cleared rests_mid (one.empty honest) c.log_growth.ensures.opened c.args.frame.now hi last) (two.any_moment honest_cleared) in
    moments_joined d.moment d.left_since old cleared appended P first second

pub returns-in_err-write_synced-clause-any_moment : goal.returns-in_err-write_synced-clause-any_moment
returns-in_err-write_synced-clause-any_moment g c = λ honest closed active synced hi rests last.
    let d = g.D.Disk in
    let block = c.args.block in
    let gate = c.args.gate in
    let old = c.args.disk.now in
    let cleared = c.clear.new.disk in
    let P = RecoversTo (recovered closed active) in
    let one = c.in_ok-clear.ensures in
    let first = moments_weaker d.moment d.left_since old cleared _ P (cleared_images d.seen d.may_leave block gate synced closed active old rests) (one.any_moment honest) in
    let honest_cleared = one.honesty.0 honest in
    let rests_mid = rests_cleared d.seen d.may_leave block gate synced closed active old cleared rests (one.same honest) (one.crash honest) in
    let appended = c.append.new.disk in
    let two = c.in_ok-append.ensures in
    let second = moments_weaker d.moment d.left_since cleared appended _ P (ending_images d.seen d.may_leave block gate synced closed active cleared rests_mid (one.empty honest) c.log_growth.ensures.opened c.args.frame.now hi last) (two.any_moment honest_cleared) in
    let honest_appended = two.honesty.0 honest_cleared in
    let new = c.write_synced.new.disk in
    let three = c.write_synced.ensures in
    let third = moments_weaker d.moment d.left_since appended new _ P
    (making_images d.seen d.may_leave block gate synced closed active cleared rests_mid (one.empty honest) c.log_growth.ensures.opened c.args.frame.now hi last appended (two.done honest_cleared) (two.others honest_cleared) (two.durable honest_cleared) (two.crash honest_cleared))
    (three.any_moment honest_appended) in
    moments_joined d.moment d.left_since old cleared new P first (moments_joined d.moment d.left_since cleared appended new P second third)

pub returns-clause-any_moment : goal.returns-clause-any_moment
returns-clause-any_moment g c = λ honest closed active synced hi rests last.
    let d = g.D.Disk in
    let block = c.args.block in
    let gate = c.args.gate in
    let old = c.args.disk.now in
    let cleared = c.clear.new.disk in
    let P = RecoversTo (recovered closed active) in
    let one = c.in_ok-clear.ensures in
    let first = moments_weaker d.moment d.left_since old cleared _ P (cleared_images d.seen d.may_leave block gate synced closed active old rests) (one.any_moment honest) in
    let honest_cleared = one.honesty.0 honest in
    let rests_mid = rests_cleared d.seen d.may_leave block gate synced closed active old cleared rests (one.same honest) (one.crash honest) in
    let appended = c.append.new.disk in
    let two = c.in_ok-append.ensures in
    let second = moments_weaker d.moment d.left_since cleared appended _ P (ending_images d.seen d.may_leave block gate synced closed active cleared rests_mid (one.empty honest) c.log_growth.ensures.opened c.args.frame.now hi last) (two.any_moment honest_cleared) in
    let honest_appended = two.honesty.0 honest_cleared in
    let new = c.write_synced.new.disk in
    let three = c.in_ok-write_synced.ensures in
    let third = moments_weaker d.moment d.left_since appended new _ P
    (making_images d.seen d.may_leave block gate synced closed active cleared rests_mid (one.empty honest) c.log_growth.ensures.opened c.args.frame.now hi last appended (two.done honest_cleared) (two.others honest_cleared) (two.durable honest_cleared) (two.crash honest_cleared))
    (three.any_moment honest_appended) in
    moments_joined d.moment d.left_since old cleared new P first (moments_joined d.moment d.left_since cleared appended new P second third)

pub returns-in_err-clear-clause-others : goal.returns-in_err-clear-clause-others
returns-in_err-clear-clause-others g c = λ honest.
    let d = g.D.Disk in
    let block = c.args.block in
    let old = c.args.disk.now in
    let cleared = c.clear.new.disk in
    let P = Reaches (OthersAt block) (d.may_leave old) in
    let one = c.clear.ensures in
    let first = moments_weaker d.moment d.left_since old cleared _ P (clearing_others block (d.may_leave old)) (one.any_moment honest) in
    first

pub returns-in_err-append-clause-others : goal.returns-in_err-append-clause-others
returns-in_err-append-clause-others g c = λ honest.
    let d = g.D.Disk in
    let block = c.args.block in
    let old = c.args.disk.now in
    let cleared = c.clear.new.disk in
    let P = Reaches (OthersAt block) (d.may_leave old) in
    let one = c.in_ok-clear.ensures in
    let first = moments_weaker d.moment d.left_since old cleared _ P (clearing_others block (d.may_leave old)) (one.any_moment honest) in
    let honest_cleared = one.honesty.0 honest in
    let appended = c.append.new.disk in
    let two = c.append.ensures in
    let second = moments_weaker d.moment d.left_since cleared appended _ P (ending_others block c.args.gate c.args.frame.now (d.may_leave old) (d.may_leave cleared) (one.crash honest)) (two.any_moment honest_cleared) in
    moments_joined d.moment d.left_since old cleared appended P first second

pub returns-in_err-write_synced-clause-others : goal.returns-in_err-write_synced-clause-others
returns-in_err-write_synced-clause-others g c = λ honest.
    let d = g.D.Disk in
    let block = c.args.block in
    let old = c.args.disk.now in
    let cleared = c.clear.new.disk in
    let P = Reaches (OthersAt block) (d.may_leave old) in
    let one = c.in_ok-clear.ensures in
    let first = moments_weaker d.moment d.left_since old cleared _ P (clearing_others block (d.may_leave old)) (one.any_moment honest) in
    let honest_cleared = one.honesty.0 honest in
    let appended = c.append.new.disk in
    let two = c.in_ok-append.ensures in
    let second = moments_weaker d.moment d.left_since cleared appended _ P (ending_others block c.args.gate c.args.frame.now (d.may_leave old) (d.may_leave cleared) (one.crash honest)) (two.any_moment honest_cleared) in
    let honest_appended = two.honesty.0 honest_cleared in
    let new = c.write_synced.new.disk in
    let three = c.write_synced.ensures in
    let third = moments_weaker d.moment d.left_since appended new _ P (making_others block c.args.gate c.args.frame.now (d.may_leave old) (d.may_leave cleared) (d.may_leave appended) (one.crash honest) (two.crash honest_cleared)) (three.any_moment honest_appended) in
    moments_joined d.moment d.left_since old cleared new P first (moments_joined d.moment d.left_since cleared appended new P second third)

pub returns-clause-others : goal.returns-clause-others
returns-clause-others g c = λ honest.
    let d = g.D.Disk in
    let block = c.args.block in
    let old = c.args.disk.now in
    let cleared = c.clear.new.disk in
    let P = Reaches (OthersAt block) (d.may_leave old) in
    let one = c.in_ok-clear.ensures in
    let first = moments_weaker d.moment d.left_since old cleared _ P (clearing_others block (d.may_leave old)) (one.any_moment honest) in
    let honest_cleared = one.honesty.0 honest in
    let appended = c.append.new.disk in
    let two = c.in_ok-append.ensures in
    let second = moments_weaker d.moment d.left_since cleared appended _ P (ending_others block c.args.gate c.args.frame.now (d.may_leave old) (d.may_leave cleared) (one.crash honest)) (two.any_moment honest_cleared) in
    let honest_appended = two.honesty.0 honest_cleared in
    let new = c.write_synced.new.disk in
    let three = c.in_ok-write_synced.ensures in
    let third = moments_weaker d.moment d.left_since appended new _ P (making_others block c.args.gate c.args.frame.now (d.may_leave old) (d.may_leave cleared) (d.may_leave appended) (one.crash honest) (two.crash honest_cleared)) (three.any_moment honest_appended) in
    moments_joined d.moment d.left_since old cleared new P first (moments_joined d.moment d.left_since cleared appended new P second third)

pub returns-clause-turned : goal.returns-clause-turned
returns-clause-turned g c = λ honest closed active synced hi rests last.
    let d = g.D.Disk in
    let block = c.args.block in
    let gate = c.args.gate in
    let old = c.args.disk.now in
    let cleared = c.clear.new.disk in
    let one = c.in_ok-clear.ensures in
    let honest_cleared = one.honesty.0 honest in
    let rests_mid = rests_cleared d.seen d.may_leave block gate synced closed active old cleared rests (one.same honest) (one.crash honest) in
    let appended = c.append.new.disk in
    let two = c.in_ok-append.ensures in
    let honest_appended = two.honesty.0 honest_cleared in
    let three = c.in_ok-write_synced.ensures in
    rests_turned d.seen d.may_leave block gate synced closed active cleared rests_mid (one.empty honest) c.log_growth.ensures.opened c.args.frame.now hi last appended (two.done honest_cleared) (two.others honest_cleared) (two.durable honest_cleared) (two.crash honest_cleared)
    c.write_synced.new.disk (three.done honest_appended) (three.others honest_appended) (three.durable honest_appended) (three.crash honest_appended)
