use Rattle.std.proofs.Common.{◌≡◌, ℕ, ◌+◌, List, [], ◌∷◌, ◌++◌, length, sym, ap, ◌∙◌}
use Rattle.fd_device.specs.Disks.{Files, Steps, Reaches, OthersStay}
use Rattle.fd_device.specs.Moments.{moments_weaker}
use Rattle.fd_keeper.specs.Blocks.{log_of, recovered, Extends}
use Rattle.fd_keeper.specs.Keepers.{Appends}
use Rattle.fd_keeper.proofs.Adding.{extends_images, rests_after}
use Rattle.fd_keeper.proofs.tail.add_frame.Goals as goal

pub returns-in_err-append-clause-any_moment : goal.returns-in_err-append-clause-any_moment
returns-in_err-append-clause-any_moment g c = λ honest closed active number batches rests next.
    let d = g.D.Disk in
    let t = c.args.tail.now in
    let same : c.as_slice-2.result.now ≡ c.args.frame ++ 0 ∷ [] = c.as_slice-2.ensures ∙ c.in_ok-push.ensures.ok in
    moments_weaker d.moment d.left_since c.args.disk.now c.append.new.disk _ (Extends (recovered closed active) batches)
    (extends_images d.seen d.may_leave c.log_growth.ensures.opened c.args.disk.now t.block t.gate t.synced closed active rests c.args.frame c.as_slice-2.result.now number batches next same) (c.append.ensures.any_moment honest)

pub returns-clause-any_moment : goal.returns-clause-any_moment
returns-clause-any_moment g c = λ honest closed active number batches rests next.
    let d = g.D.Disk in
    let t = c.args.tail.now in
    let same : c.as_slice-2.result.now ≡ c.args.frame ++ 0 ∷ [] = c.as_slice-2.ensures ∙ c.in_ok-push.ensures.ok in
    moments_weaker d.moment d.left_since c.args.disk.now c.append.new.disk _ (Extends (recovered closed active) batches)
    (extends_images d.seen d.may_leave c.log_growth.ensures.opened c.args.disk.now t.block t.gate t.synced closed active rests c.args.frame c.as_slice-2.result.now number batches next same) (c.append.ensures.any_moment honest)

pub returns-clause-others : goal.returns-clause-others
returns-clause-others g c = λ honest.
    let d = g.D.Disk in
    let t = c.args.tail.now in
    moments_weaker d.moment d.left_since c.args.disk.now c.append.new.disk (Reaches (Steps (log_of t.block) (Appends t.gate c.as_slice-2.result.now)) (d.may_leave c.args.disk.now)) (Reaches (OthersStay (log_of t.block)) (d.may_leave c.args.disk.now))
    (λ (image : Files) r. (r.0, r.1, r.2.others)) (c.append.ensures.any_moment honest)

pub returns-clause-added : goal.returns-clause-added
returns-clause-added g c = λ honest closed active number batches rests next counts.
    let d = g.D.Disk in
    let t = c.args.tail.now in
    let same : c.as_slice-2.result.now ≡ c.args.frame ++ 0 ∷ [] = c.as_slice-2.ensures ∙ c.in_ok-push.ensures.ok in
    let place : c.in-Some.place ≡ t.gate + length c.as_slice.result.now = c.in-Some.ensures.0 in
    let long : c.in-Some.place ≡ t.gate + length c.as_slice-2.result.now = place ∙ ap (λ (l : List ℕ). t.gate + length l) (c.as_slice.ensures ∙ sym c.as_slice-2.ensures) in
    let did = c.in_ok-append.ensures in
    rests_after d.seen d.may_leave c.log_growth.ensures.opened c.args.disk.now t.block t.gate t.synced closed active rests c.args.frame c.as_slice-2.result.now number batches next same
    c.append.new.disk (did.done honest) (did.others honest) (did.durable honest) (did.crash honest) c.in-Some.place c.args.count long counts
