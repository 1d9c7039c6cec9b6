use Rattle.std.proofs.Common.{arith, ap, sym, ◌∙◌, ◌≡◌, ◌++◌, inl, subst, refl, [], Err}
use Rattle.fd_device.specs.Disks.{Files}
use Rattle.fd_device.specs.Moments.{moments_weaker, moments_joined}
use Rattle.fd_shelf.specs.Histories.{hist}
use Rattle.fd_wal.specs.Runs.{rows_in}
use Rattle.fd_keeper.specs.Blocks.{RecoversTo}
use Rattle.fd_durable.specs.Durable.{Whole}
use Rattle.fd_durable.proofs.LogSteps.{ready_stands}
use Rattle.fd_durable.proofs.logging.log.Goals as goal

pub returns-in-Ok-clause-any_moment : goal.returns-in-Ok-clause-any_moment
returns-in-Ok-clause-any_moment g c = λ honest.
    let d = g.D.Disk in
    let shelf = c.args.shelf.now in
    let history = hist shelf.book shelf.mark in
    let P = Whole history (rows_in c.args.batches.now) in
    let old = c.args.keeper.now.disk in
    let mid = c.make_way.new.keeper.disk in
    let new = c.flush_one.new.keeper.disk in
    let before = moments_weaker d.moment d.left_since old mid (RecoversTo history) P (λ image is. inl is) (c.in-Ok.ensures.any_moment honest) in
    moments_joined d.moment d.left_since old mid new P before (c.flush_one.ensures.any_moment (c.in-Ok.ensures.honesty.0 honest))

pub returns-in-Ok-clause-stands : goal.returns-in-Ok-clause-stands
returns-in-Ok-clause-stands g c = λ honest wanting.
    let d = g.D.Disk in
    ready_stands d.seen d.may_leave c.make_way.new.keeper c.flush_one.new.keeper c.args.shelf.now (c.flush_one.ensures.unwritten wanting) (c.in-Ok.ensures.ready honest)
