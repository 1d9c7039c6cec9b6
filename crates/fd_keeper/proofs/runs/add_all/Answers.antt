use Rattle.std.proofs.Common.{◌≡◌, ℕ, ◌+◌, ◌≤◌, ◌++◌, take, drop, refl, arith, ap, subst, ◌∙◌, Err}
use Rattle.fd_device.specs.Disks.{Files, Reaches, OthersStay}
use Rattle.fd_device.specs.Moments.{moments_begin, moments_joined, moments_weaker}
use Rattle.fd_wal.specs.Runs.{rows_in, AreNumberedFrom, IsSmallBatch}
use Rattle.std.proofs.lemmas.List.Elements.{All-drop}
use Rattle.fd_keeper.specs.declared.tail.Tail.{Tail}
use Rattle.fd_keeper.specs.Blocks.{log_of, recovered, Extends}
use Rattle.fd_keeper.proofs.Growth.{extends_none}
use Rattle.fd_keeper.proofs.RunSteps.{numbered_drop, room_left, step_extends, stay_twice, leaves_at_least, gains_none, gains_more, gains_kept, at_rest}
use Rattle.fd_keeper.proofs.runs.add_all.Goals as goal

pub loop-from-init : goal.loop-from-init
loop-from-init g c =
    let d = g.D.Disk in
    let old = c.args.disk.now in
    let t = c.args.tail.now in
    let batches = c.args.batches.now in
    record {
      within = omega arith;
      block = refl;
      synced = omega arith;
      honesty = (λ h. h, λ h. h);
      any_moment = λ honest closed active rests. moments_begin d.moment d.left_since old (Extends (recovered closed active) (rows_in batches))
          (λ (image : Files) left. extends_none closed active (rows_in batches) image (rests.images image (g.met.D.Disk.only_now old image honest left)));
      others = λ honest. moments_begin d.moment d.left_since old (Reaches (OthersStay (log_of t.block)) (d.may_leave old)) (λ (image : Files) left. (image, g.met.D.Disk.only_now old image honest left, λ f other. refl));
      crash = λ honest image left. (image, left, λ f other. refl);
      added = λ honest closed active rests. gains_none d.seen d.may_leave old t.block t.gate t.synced closed active rests;
      settled = λ honest settled. settled;
      faults = refl;
      unmoved = λ none. (refl, refl);
    }

pub add_run-requires-clause-numbered : goal.add_run-requires-clause-numbered
add_run-requires-clause-numbered g c =
    let inv = c.loop-from.invariant in
    let same : c.args.tail.now.synced + 1 + c.loop-from.from ≡ c.loop-from.tail.synced + 1 = omega (arith, inv.synced) in
    subst (λ (n : ℕ). AreNumberedFrom n (drop c.loop-from.from c.args.batches.now)) same (numbered_drop c.loop-from.from (c.args.tail.now.synced + 1) c.args.batches.now c.requires.numbered)

pub add_run-requires-clause-small : goal.add_run-requires-clause-small
add_run-requires-clause-small g c = All-drop IsSmallBatch c.loop-from.from c.args.batches.now c.requires.small

pub add_run-requires-clause-rests : goal.add_run-requires-clause-rests
add_run-requires-clause-rests g c = λ honest_now.
    let d = g.D.Disk in
    let inv = c.loop-from.invariant in
    let honest = inv.honesty.1 honest_now in
    let was = c.requires.rests honest in
    at_rest d.seen d.may_leave c.loop-from.disk c.loop-from.tail.block c.loop-from.tail.gate c.loop-from.tail.synced was.closed was.active (take c.loop-from.from (rows_in c.args.batches.now)) (inv.added honest was.closed was.active was.rests)

pub returns-in-Err-NoMemory-clause-any_moment : goal.returns-in-Err-NoMemory-clause-any_moment
returns-in-Err-NoMemory-clause-any_moment g c = λ honest closed active rests.
    let d = g.D.Disk in
    let inv = c.loop-from.invariant in
    let now = c.loop-from.disk in
    let new = c.add_run.new.disk in
    let P = Extends (recovered closed active) (rows_in c.args.batches.now) in
    let so_far = inv.added honest closed active rests in
    let step = moments_weaker d.moment d.left_since now new _ P (step_extends closed active so_far.more c.args.batches.now c.loop-from.from inv.within so_far.added)
    (c.add_run.ensures.any_moment (inv.honesty.0 honest) closed (active ++ so_far.more) so_far.rests (room_left active so_far.more c.args.batches.now c.loop-from.from so_far.added (c.requires.room honest closed active rests))) in
    moments_joined d.moment d.left_since c.args.disk.now now new P (inv.any_moment honest closed active rests) step

pub returns-in-Err-NoMemory-clause-others : goal.returns-in-Err-NoMemory-clause-others
returns-in-Err-NoMemory-clause-others g c = λ honest.
    let d = g.D.Disk in
    let inv = c.loop-from.invariant in
    let old = c.args.disk.now in
    let now = c.loop-from.disk in
    let new = c.add_run.new.disk in
    let P = Reaches (OthersStay (log_of c.args.tail.now.block)) (d.may_leave old) in
    let step = moments_weaker d.moment d.left_since now new _ P (stay_twice c.args.tail.now.block c.loop-from.tail.block inv.block (d.may_leave old) (d.may_leave now) (inv.crash honest)) (c.add_run.ensures.others (inv.honesty.0 honest)) in
    moments_joined d.moment d.left_since old now new P (inv.others honest) step

pub returns-in-Err-DiskFault-clause-any_moment : goal.returns-in-Err-DiskFault-clause-any_moment
returns-in-Err-DiskFault-clause-any_moment g c = λ honest closed active rests.
    let d = g.D.Disk in
    let inv = c.loop-from.invariant in
    let now = c.loop-from.disk in
    let new = c.add_run.new.disk in
    let P = Extends (recovered closed active) (rows_in c.args.batches.now) in
    let so_far = inv.added honest closed active rests in
    let step = moments_weaker d.moment d.left_since now new _ P (step_extends closed active so_far.more c.args.batches.now c.loop-from.from inv.within so_far.added)
    (c.add_run.ensures.any_moment (inv.honesty.0 honest) closed (active ++ so_far.more) so_far.rests (room_left active so_far.more c.args.batches.now c.loop-from.from so_far.added (c.requires.room honest closed active rests))) in
    moments_joined d.moment d.left_since c.args.disk.now now new P (inv.any_moment honest closed active rests) step

pub returns-in-Err-DiskFault-clause-others : goal.returns-in-Err-DiskFault-clause-others
returns-in-Err-DiskFault-clause-others g c = λ honest.
    let d = g.D.Disk in
    let inv = c.loop-from.invariant in
    let old = c.args.disk.now in
    let now = c.loop-from.disk in
    let new = c.add_run.new.disk in
    let P = Reaches (OthersStay (log_of c.args.tail.now.block)) (d.may_leave old) in
    let step = moments_weaker d.moment d.left_since now new _ P (stay_twice c.args.tail.now.block c.loop-from.tail.block inv.block (d.may_leave old) (d.may_leave now) (inv.crash honest)) (c.add_run.ensures.others (inv.honesty.0 honest)) in
    moments_joined d.moment d.left_since old now new P (inv.others honest) step

pub returns-in-Err-NoMemory-clause-added : goal.returns-in-Err-NoMemory-clause-added
returns-in-Err-NoMemory-clause-added g c = λ honest closed active rests other.
    let d = g.D.Disk in
    let inv = c.loop-from.invariant in
    let t = c.loop-from.tail in
    let kept = gains_kept d.seen d.may_leave c.loop-from.disk t.block t.gate t.synced c.args.tail.now.synced closed active c.args.batches.now c.loop-from.from inv.within inv.synced (inv.added honest closed active rests) in
    rw (c.in-Err-NoMemory.ensures.untouched (ap Err c.in-Err-NoMemory.field-0-is), c.in-Err-NoMemory.ensures.err) kept

pub loop-from-preserved : goal.loop-from-preserved
loop-from-preserved g c =
    let d = g.D.Disk in
    let inv = c.loop-from.invariant in
    let old = c.args.disk.now in
    let was = c.args.tail.now in
    let now = c.loop-from.disk in
    let t = c.loop-from.tail in
    let new = c.add_run.new.disk in
    let after = c.add_run.new.tail in
    let next = c.in-Ok.next in
    let did = c.in-Ok.ensures in
    let batches = c.args.batches.now in
    record {
      within = did.within;
      block = did.block ∙ inv.block;
      synced = omega (arith, did.ok, inv.synced);
      honesty = (λ h. did.honesty.0 (inv.honesty.0 h), λ h. inv.honesty.1 (did.honesty.1 h));
      any_moment = λ honest closed active rests.
          let P = Extends (recovered closed active) (rows_in batches) in
          let so_far = inv.added honest closed active rests in
          let step = moments_weaker d.moment d.left_since now new _ P (step_extends closed active so_far.more batches c.loop-from.from inv.within so_far.added)
          (did.any_moment (inv.honesty.0 honest) closed (active ++ so_far.more) so_far.rests (room_left active so_far.more batches c.loop-from.from so_far.added (c.requires.room honest closed active rests))) in
          moments_joined d.moment d.left_since old now new P (inv.any_moment honest closed active rests) step;
      others = λ honest.
          let P = Reaches (OthersStay (log_of was.block)) (d.may_leave old) in
          let step = moments_weaker d.moment d.left_since now new _ P (stay_twice was.block t.block inv.block (d.may_leave old) (d.may_leave now) (inv.crash honest)) (did.others (inv.honesty.0 honest)) in
          moments_joined d.moment d.left_since old now new P (inv.others honest) step;
      crash = λ honest image left. stay_twice was.block t.block inv.block (d.may_leave old) (d.may_leave now) (inv.crash honest) image (did.crash (inv.honesty.0 honest) image left);
      added = λ honest closed active rests.
          let so_far = inv.added honest closed active rests in
          let le : c.loop-from.from ≤ next = omega (arith, did.further) in
          gains_more d.seen d.may_leave now new t.block t.gate t.synced after.block after.gate after.synced closed active batches c.loop-from.from next (t.synced + 1) le so_far
          (did.added (inv.honesty.0 honest) closed (active ++ so_far.more) so_far.rests (room_left active so_far.more batches c.loop-from.from so_far.added (c.requires.room honest closed active rests)));
      settled = λ honest settled. did.settled (inv.honesty.0 honest) (inv.settled honest settled);
      faults = did.cause ∙ inv.faults;
      unmoved = λ none. absurd (omega (arith, none, did.further));
    }

pub returns-clause-added : goal.returns-clause-added
returns-clause-added g c = λ honest closed active rests other.
    let d = g.D.Disk in
    let inv = c.loop-from.invariant in
    let t = c.loop-from.tail in
    gains_kept d.seen d.may_leave c.loop-from.disk t.block t.gate t.synced c.args.tail.now.synced closed active c.args.batches.now c.loop-from.from inv.within inv.synced (inv.added honest closed active rests)

pub returns-in-Err-DiskFault-clause-faulted : goal.returns-in-Err-DiskFault-clause-faulted
returns-in-Err-DiskFault-clause-faulted g c = λ honest closed active rests fault.
    let d = g.D.Disk in
    let inv = c.loop-from.invariant in
    let t = c.loop-from.tail in
    let new = c.add_run.new.disk in
    let batches = c.args.batches.now in
    let so_far = inv.added honest closed active rests in
    let honest_now = inv.honesty.0 honest in
    let step = c.add_run.ensures.any_moment honest_now closed (active ++ so_far.more) so_far.rests (room_left active so_far.more batches c.loop-from.from so_far.added (c.requires.room honest closed active rests)) in
    let honest_new = c.add_run.ensures.honesty.0 honest_now in
    let least = leaves_at_least d.seen d.may_leave new t.synced c.args.tail.now.synced closed active so_far.more batches c.loop-from.from inv.within inv.synced so_far.added
    (λ (image : Files) left. step.each image (g.met.D.Disk.counts_now new (d.moment c.loop-from.disk) image honest_new step.later left)) in
    rw (c.in-Err-DiskFault.ensures.err) least

pub returns-in-Err-NoMemory-clause-untouched : goal.returns-in-Err-NoMemory-clause-untouched
returns-in-Err-NoMemory-clause-untouched g c = λ wanting same.
    let inv = c.loop-from.invariant in
    let tail_kept = c.in-Err-NoMemory.ensures.err in
    let synced_kept = ap (λ (t : Tail). t.synced) tail_kept in
    let kept = inv.unmoved (omega (arith, inv.synced, same, synced_kept)) in
    (c.in-Err-NoMemory.ensures.untouched (ap Err c.in-Err-NoMemory.field-0-is) ∙ kept.0, tail_kept ∙ kept.1)
