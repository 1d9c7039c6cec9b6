use Rattle.std.proofs.Common.{ℕ, List, arith, ap, sym, ◌∙◌, ◌≡◌, ◌<◌, ◌≤◌, ◌+◌, ◌-◌, ◌++◌, ⊎_elim, inl, inr, subst, refl, [], ◌∷◌, length, take, Err}
use Rattle.std.proofs.lemmas.Option.{none-some}
use Rattle.std.proofs.lemmas.List.{length-map}
use Rattle.fd_kinds.specs.declared.batch.NumberedBatch.{NumberedBatch}
use Rattle.fd_kinds.specs.History.{History}
use Rattle.fd_device.specs.Disks.{Files}
use Rattle.fd_device.specs.Moments.{moments_weaker}
use Rattle.fd_shelf.specs.Books.{Follows, settled_parts}
use Rattle.fd_shelf.specs.Histories.{hist}
use Rattle.fd_wal.specs.Frames.{Frame}
use Rattle.fd_wal.specs.Runs.{rows_in}
use Rattle.fd_keeper.specs.Blocks.{Extends, recovered}
use Rattle.fd_keeper.specs.Keepers.{HasRoom}
use Rattle.fd_durable.specs.Logs.{IsLevel}
use Rattle.fd_durable.specs.Durable.{Whole}
use Rattle.fd_durable.proofs.LogSteps.{has_room, few_bytes, log_size, logged, ok_is_no_fault, no_memory_is_no_fault}
use Rattle.fd_durable.proofs.Images.{one_more}
use Rattle.fd_durable.proofs.logging.flush_one.Goals as goal

pub flush-requires-clause-room : goal.flush-requires-clause-room
flush-requires-clause-room g c = λ honest closed active stands.
    let d = g.D.Disk in
    let st = c.requires.ready honest in
    let shelf = c.args.shelf.now in
    let order = c.is_in_order.ensures.book in
    let same : st.active ≡ active = c.one_recovery.ensures.active (d.seen c.args.keeper.now.disk) st.closed closed st.active active st.keeper.rests.recovers stands.rests.recovers in
    subst (λ (frames : List Frame). HasRoom frames (rows_in c.args.batches.now)) same
    (has_room st.active c.args.batches.now
    (few_bytes st.active shelf.book st.closed st.ready
    (λ (level : IsLevel st.closed shelf.book).
    log_size shelf order (subst (λ (end : ℕ). Follows 1 (settled_parts shelf.book) end) (sym order.ends) order.well_formed.settled) order.well_formed.used st.closed st.active level st.history c.history_laws.ensures.count
    c.history_laws.ensures.rows c.history_laws.ensures.whole))
    c.requires.one c.requires.small)

pub refusal-requires : goal.refusal-requires
refusal-requires g c = λ count is. none-some count (sym c.requires.healthy ∙ (c.flush.ensures.stopped count).0 (c.in-Err.is ∙ ap Err (sym c.in-Err.fault-is ∙ is)))

pub returns-in-Ok-clause-any_moment : goal.returns-in-Ok-clause-any_moment
returns-in-Ok-clause-any_moment g c = λ honest.
    let d = g.D.Disk in
    let st = c.requires.ready honest in
    let shelf = c.args.shelf.now in
    let batches = c.args.batches.now in
    moments_weaker d.moment d.left_since c.args.keeper.now.disk c.flush.new.self.disk (Extends (recovered st.closed st.active) (rows_in batches)) (Whole (hist shelf.book shelf.mark) (rows_in batches))
    (one_more (recovered st.closed st.active) (hist shelf.book shelf.mark) batches st.history c.requires.one) (c.flush.ensures.any_moment honest st.closed st.active st.keeper)

pub returns-in-Err-NoMemory-clause-any_moment : goal.returns-in-Err-NoMemory-clause-any_moment
returns-in-Err-NoMemory-clause-any_moment g c = λ honest.
    let d = g.D.Disk in
    let st = c.requires.ready honest in
    let shelf = c.args.shelf.now in
    let batches = c.args.batches.now in
    moments_weaker d.moment d.left_since c.args.keeper.now.disk c.flush.new.self.disk (Extends (recovered st.closed st.active) (rows_in batches)) (Whole (hist shelf.book shelf.mark) (rows_in batches))
    (one_more (recovered st.closed st.active) (hist shelf.book shelf.mark) batches st.history c.requires.one) (c.flush.ensures.any_moment honest st.closed st.active st.keeper)

pub returns-in-Err-clause-any_moment : goal.returns-in-Err-clause-any_moment
returns-in-Err-clause-any_moment g c = λ honest.
    let d = g.D.Disk in
    let st = c.requires.ready honest in
    let shelf = c.args.shelf.now in
    let batches = c.args.batches.now in
    moments_weaker d.moment d.left_since c.args.keeper.now.disk c.flush.new.self.disk (Extends (recovered st.closed st.active) (rows_in batches)) (Whole (hist shelf.book shelf.mark) (rows_in batches))
    (one_more (recovered st.closed st.active) (hist shelf.book shelf.mark) batches st.history c.requires.one) (c.flush.ensures.any_moment honest st.closed st.active st.keeper)

pub returns-in-Ok-clause-logged : goal.returns-in-Ok-clause-logged
returns-in-Ok-clause-logged g c = λ honest.
    let d = g.D.Disk in
    let st = c.requires.ready honest in
    let shelf = c.args.shelf.now in
    let batches = c.args.batches.now in
    let old = c.args.keeper.now in
    let new = c.flush.new.self in
    let added = c.keeping_laws.ensures.added old new st.closed st.active (rows_in batches) (c.flush.ensures.added honest st.closed st.active st.keeper (λ fault. ok_is_no_fault c.flush.result _ _ c.in-Ok.is fault)) in
    let long : length (rows_in batches) ≡ 1 = length-map batches (λ (b : NumberedBatch). b.batch.rows) ∙ c.requires.one in
    let all : new.synced ≡ old.synced + 1 = omega (arith, c.in-Ok.ensures.all, c.in-Ok.ensures.synced, c.requires.one) in
    logged d.seen d.may_leave new shelf st.closed st.active added.0 (rows_in batches) (new.synced - old.synced) added.1 added.2 (omega (arith, long, all)) st.history st.ready

pub returns-in-Err-NoMemory-clause-logged : goal.returns-in-Err-NoMemory-clause-logged
returns-in-Err-NoMemory-clause-logged g c = λ honest.
    let d = g.D.Disk in
    let st = c.requires.ready honest in
    let shelf = c.args.shelf.now in
    let batches = c.args.batches.now in
    let old = c.args.keeper.now in
    let new = c.flush.new.self in
    let added = c.keeping_laws.ensures.added old new st.closed st.active (rows_in batches) (c.flush.ensures.added honest st.closed st.active st.keeper (λ fault. no_memory_is_no_fault c.flush.result (c.in-Err-NoMemory.is ∙ ap Err c.in-Err-NoMemory.field-0-is) fault)) in
    let long : length (rows_in batches) ≡ 1 = length-map batches (λ (b : NumberedBatch). b.batch.rows) ∙ c.requires.one in
    let more : old.synced < new.synced = omega (arith, c.if-synced-before.true, c.synced-before.ensures.value, c.synced.ensures.value) in
    logged d.seen d.may_leave new shelf st.closed st.active added.0 (rows_in batches) (new.synced - old.synced) added.1 added.2 (omega (arith, long, more)) st.history st.ready
