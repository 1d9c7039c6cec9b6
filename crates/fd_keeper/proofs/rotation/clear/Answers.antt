use Rattle.fd_device.specs.Disks.{Reaches}
use Rattle.fd_device.specs.Moments.{moments_joined, moments_weaker}
use Rattle.fd_keeper.specs.Keepers.{OthersOf}
use Rattle.fd_keeper.proofs.Rotations.{cut_seal_images, cut_log_images, both_cut, seal_is_cut, seal_images_cut, log_is_cut, log_images_cut}
use Rattle.fd_keeper.proofs.rotation.clear.Goals as goal

pub returns-in_err-cut_synced-clause-any_moment : goal.returns-in_err-cut_synced-clause-any_moment
returns-in_err-cut_synced-clause-any_moment g c = λ honest.
    let d = g.D.Disk in
    let old = c.args.disk.now in
    let new = c.cut_synced.new.disk in
    let block = c.args.block in
    moments_weaker d.moment d.left_since old new _ (Reaches (OthersOf block) (d.may_leave old))
    (cut_seal_images block (d.seen old) (d.seen new) (d.seen new) (d.may_leave old) (d.may_leave new) (d.may_leave new)) (c.cut_synced.ensures.any_moment honest)

pub returns-in_err-cut_synced-2-clause-any_moment : goal.returns-in_err-cut_synced-2-clause-any_moment
returns-in_err-cut_synced-2-clause-any_moment g c = λ honest.
    let d = g.D.Disk in
    let old = c.args.disk.now in
    let mid = c.cut_synced.new.disk in
    let new = c.cut_synced-2.new.disk in
    let block = c.args.block in
    let one = c.in_ok-cut_synced.ensures in
    let P = Reaches (OthersOf block) (d.may_leave old) in
    moments_joined d.moment d.left_since old mid new P
    (moments_weaker d.moment d.left_since old mid _ P (cut_seal_images block (d.seen old) (d.seen mid) (d.seen new) (d.may_leave old) (d.may_leave mid) (d.may_leave new)) (one.any_moment honest))
    (moments_weaker d.moment d.left_since mid new _ P (cut_log_images block (d.seen old) (d.seen mid) (d.seen new) (d.may_leave old) (d.may_leave mid) (d.may_leave new) (one.crash honest)) (c.cut_synced-2.ensures.any_moment (one.honesty.0 honest)))

pub returns-clause-any_moment : goal.returns-clause-any_moment
returns-clause-any_moment g c = λ honest.
    let d = g.D.Disk in
    let old = c.args.disk.now in
    let mid = c.cut_synced.new.disk in
    let new = c.cut_synced-2.new.disk in
    let block = c.args.block in
    let one = c.in_ok-cut_synced.ensures in
    let P = Reaches (OthersOf block) (d.may_leave old) in
    moments_joined d.moment d.left_since old mid new P
    (moments_weaker d.moment d.left_since old mid _ P (cut_seal_images block (d.seen old) (d.seen mid) (d.seen new) (d.may_leave old) (d.may_leave mid) (d.may_leave new)) (one.any_moment honest))
    (moments_weaker d.moment d.left_since mid new _ P (cut_log_images block (d.seen old) (d.seen mid) (d.seen new) (d.may_leave old) (d.may_leave mid) (d.may_leave new) (one.crash honest)) (c.in_ok-cut_synced-2.ensures.any_moment (one.honesty.0 honest)))

pub returns-clause-crash : goal.returns-clause-crash
returns-clause-crash g c = λ honest image left.
    let d = g.D.Disk in
    let old = c.args.disk.now in
    let mid = c.cut_synced.new.disk in
    let new = c.cut_synced-2.new.disk in
    let one = c.in_ok-cut_synced.ensures in
    cut_log_images c.args.block (d.seen old) (d.seen mid) (d.seen new) (d.may_leave old) (d.may_leave mid) (d.may_leave new) (one.crash honest) image (c.in_ok-cut_synced-2.ensures.crash (one.honesty.0 honest) image left)

pub returns-clause-same : goal.returns-clause-same
returns-clause-same g c = λ honest.
    let d = g.D.Disk in
    let old = c.args.disk.now in
    let mid = c.cut_synced.new.disk in
    let new = c.cut_synced-2.new.disk in
    let one = c.in_ok-cut_synced.ensures in
    both_cut c.args.block (d.seen old) (d.seen mid) (d.seen new) (d.may_leave old) (d.may_leave mid) (d.may_leave new) (one.others honest) (c.in_ok-cut_synced-2.ensures.others (one.honesty.0 honest))

pub returns-clause-empty : goal.returns-clause-empty
returns-clause-empty g c = λ honest.
    let d = g.D.Disk in
    let old = c.args.disk.now in
    let mid = c.cut_synced.new.disk in
    let new = c.cut_synced-2.new.disk in
    let block = c.args.block in
    let one = c.in_ok-cut_synced.ensures in
    let two = c.in_ok-cut_synced-2.ensures in
    let honest_mid = one.honesty.0 honest in
    record {
      seal = seal_is_cut block (d.seen old) (d.seen mid) (d.seen new) (d.may_leave old) (d.may_leave mid) (d.may_leave new) (one.done honest) (two.others honest_mid);
      log = log_is_cut block (d.seen old) (d.seen mid) (d.seen new) (d.may_leave old) (d.may_leave mid) (d.may_leave new) (two.done honest_mid);
      seal_images = seal_images_cut block (d.seen old) (d.seen mid) (d.seen new) (d.may_leave old) (d.may_leave mid) (d.may_leave new) (one.done honest) (one.durable honest) (two.crash honest_mid);
      log_images = log_images_cut block (d.seen old) (d.seen mid) (d.seen new) (d.may_leave old) (d.may_leave mid) (d.may_leave new) (two.done honest_mid) (two.durable honest_mid);
    }
