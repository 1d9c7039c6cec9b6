use Rattle.std.proofs.Common.{refl}
use Rattle.fd_device.specs.Moments.{moments_joined, moments_weaker}
use Rattle.fd_keeper.specs.Blocks.{RecoversTo, recovered, log_of}
use Rattle.fd_open.proofs.Repairs.{cut_images, gate_images, rests_at_end, gate_has_place, others_joined, others_followed, durable_after}
use Rattle.fd_open.proofs.tail.repair.Goals as goal

pub write_synced-requires : goal.write_synced-requires
write_synced-requires g c = record {
  fits = λ honest_mid.
      let d = g.D.Disk in
      let honest = c.in_ok-cut_synced.ensures.honesty.1 honest_mid in
      gate_has_place c.args.block c.end_of-end.result c.args.tail.gate c.args.tail.size (d.seen c.args.disk.now) (d.seen c.cut_synced.new.disk) (c.in_ok-cut_synced.ensures.done honest) c.end_of-end.ensures (c.requires.size honest) c.requires.placed;
}

pub returns-in_err-cut_synced-clause-any_moment : goal.returns-in_err-cut_synced-clause-any_moment
returns-in_err-cut_synced-clause-any_moment g c = λ honest closed active read.
    let d = g.D.Disk in
    let P = RecoversTo (recovered closed active) in
    moments_weaker d.moment d.left_since c.args.disk.now c.cut_synced.new.disk _ P
    (λ image r. record { closed = closed; active = active; blocks = cut_images c.recovery_laws.ensures.alike d.seen d.may_leave c.args.disk.now c.args.block c.args.tail closed active read c.end_of-end.result c.end_of-end.ensures image r; is = refl })
    (c.cut_synced.ensures.any_moment honest)

pub returns-in_err-write_synced-clause-any_moment : goal.returns-in_err-write_synced-clause-any_moment
returns-in_err-write_synced-clause-any_moment g c = λ honest closed active read.
    let d = g.D.Disk in
    let P = RecoversTo (recovered closed active) in
    let alike = c.recovery_laws.ensures.alike in
    let old = c.args.disk.now in
    let mid = c.cut_synced.new.disk in
    let one = c.in_ok-cut_synced.ensures in
    moments_joined d.moment d.left_since old mid c.write_synced.new.disk P
    (moments_weaker d.moment d.left_since old mid _ P
    (λ image r. record { closed = closed; active = active; blocks = cut_images alike d.seen d.may_leave old c.args.block c.args.tail closed active read c.end_of-end.result c.end_of-end.ensures image r; is = refl })
    (one.any_moment honest))
    (moments_weaker d.moment d.left_since mid c.write_synced.new.disk _ P
    (λ image r. record {
      closed = closed;
      active = active;
      blocks = gate_images alike d.seen d.may_leave old c.args.block c.args.tail closed active read c.end_of-end.result c.end_of-end.ensures (d.seen mid) (d.may_leave mid) (one.done honest) (one.durable honest) (one.crash honest) image r;
      is = refl;
    })
    (c.write_synced.ensures.any_moment (one.honesty.0 honest)))

pub returns-clause-any_moment : goal.returns-clause-any_moment
returns-clause-any_moment g c = λ honest closed active read.
    let d = g.D.Disk in
    let P = RecoversTo (recovered closed active) in
    let alike = c.recovery_laws.ensures.alike in
    let old = c.args.disk.now in
    let mid = c.cut_synced.new.disk in
    let one = c.in_ok-cut_synced.ensures in
    moments_joined d.moment d.left_since old mid c.write_synced.new.disk P
    (moments_weaker d.moment d.left_since old mid _ P
    (λ image r. record { closed = closed; active = active; blocks = cut_images alike d.seen d.may_leave old c.args.block c.args.tail closed active read c.end_of-end.result c.end_of-end.ensures image r; is = refl })
    (one.any_moment honest))
    (moments_weaker d.moment d.left_since mid c.write_synced.new.disk _ P
    (λ image r. record {
      closed = closed;
      active = active;
      blocks = gate_images alike d.seen d.may_leave old c.args.block c.args.tail closed active read c.end_of-end.result c.end_of-end.ensures (d.seen mid) (d.may_leave mid) (one.done honest) (one.durable honest) (one.crash honest) image r;
      is = refl;
    })
    (c.in_ok-write_synced.ensures.any_moment (one.honesty.0 honest)))

pub returns-clause-rests : goal.returns-clause-rests
returns-clause-rests g c = λ honest closed active read.
    let d = g.D.Disk in
    let mid = c.cut_synced.new.disk in
    let one = c.in_ok-cut_synced.ensures in
    let two = c.in_ok-write_synced.ensures in
    let honest_mid = one.honesty.0 honest in
    rests_at_end c.recovery_laws.ensures.alike d.seen d.may_leave c.args.disk.now c.args.block c.args.tail closed active read c.end_of-end.result c.end_of-end.ensures (d.seen mid) (d.may_leave mid) (one.done honest) (one.durable honest) (one.crash honest)
    c.write_synced.new.disk (two.done honest_mid)
    (others_joined (log_of c.args.block) (d.seen c.args.disk.now) (d.seen mid) (d.seen c.write_synced.new.disk) (one.others honest) (two.others honest_mid))
    (two.durable honest_mid) (two.crash honest_mid)

pub returns-in_err-write_synced-clause-others : goal.returns-in_err-write_synced-clause-others
returns-in_err-write_synced-clause-others g c = λ honest.
    let d = g.D.Disk in
    let one = c.in_ok-cut_synced.ensures in
    others_joined (log_of c.args.block) (d.seen c.args.disk.now) (d.seen c.cut_synced.new.disk) (d.seen c.write_synced.new.disk) (one.others honest) (c.write_synced.ensures.others (one.honesty.0 honest))

pub returns-clause-others : goal.returns-clause-others
returns-clause-others g c = λ honest.
    let d = g.D.Disk in
    let one = c.in_ok-cut_synced.ensures in
    others_joined (log_of c.args.block) (d.seen c.args.disk.now) (d.seen c.cut_synced.new.disk) (d.seen c.write_synced.new.disk) (one.others honest) (c.in_ok-write_synced.ensures.others (one.honesty.0 honest))

pub returns-clause-crash : goal.returns-clause-crash
returns-clause-crash g c = λ honest.
    let d = g.D.Disk in
    let one = c.in_ok-cut_synced.ensures in
    others_followed (log_of c.args.block) _ _ (d.may_leave c.args.disk.now) (d.may_leave c.cut_synced.new.disk) (d.may_leave c.write_synced.new.disk) (one.crash honest) (c.in_ok-write_synced.ensures.crash (one.honesty.0 honest))

pub returns-clause-durable : goal.returns-clause-durable
returns-clause-durable g c = λ honest was.
    let d = g.D.Disk in
    let one = c.in_ok-cut_synced.ensures in
    let two = c.in_ok-write_synced.ensures in
    let honest_mid = one.honesty.0 honest in
    durable_after c.args.block (d.seen c.args.disk.now) (d.seen c.write_synced.new.disk) (d.may_leave c.args.disk.now) (d.may_leave c.write_synced.new.disk)
    (others_joined (log_of c.args.block) (d.seen c.args.disk.now) (d.seen c.cut_synced.new.disk) (d.seen c.write_synced.new.disk) (one.others honest) (two.others honest_mid))
    (others_followed (log_of c.args.block) _ _ (d.may_leave c.args.disk.now) (d.may_leave c.cut_synced.new.disk) (d.may_leave c.write_synced.new.disk) (one.crash honest) (two.crash honest_mid))
    (two.durable honest_mid)
    was
