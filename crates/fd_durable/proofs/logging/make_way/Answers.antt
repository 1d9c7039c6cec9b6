use Rattle.std.proofs.Common.{ℕ, List, Err, arith, ap, sym, ◌∙◌, ◌≡◌, ◌<◌, ◌≤◌, ◌+◌, ⊎_elim, inl, inr, subst, refl, [], ◌∷◌, length, true, false}
use Rattle.std.proofs.lemmas.Option.{none-some}
use Rattle.fd_device.specs.Disks.{Files}
use Rattle.fd_device.specs.Moments.{moments_begin}
use Rattle.fd_shelf.specs.Books.{Follows, settled_parts}
use Rattle.fd_shelf.specs.Histories.{hist}
use Rattle.fd_shelf.specs.Steps.{is_full}
use Rattle.fd_wal.specs.Frames.{Frame}
use Rattle.fd_wal.specs.Logs.{history_of}
use Rattle.fd_keeper.specs.Blocks.{Block, RecoversTo}
use Rattle.fd_keeper.specs.Keepers.{ended}
use Rattle.fd_durable.specs.Logs.{IsLevel, IsAhead}
use Rattle.fd_durable.proofs.LogSteps.{as_many_blocks, level_not_full, level_full, not_ahead, pushed_count, mark_counts, log_is_used, ended_is_ahead}
use Rattle.fd_durable.proofs.logging.make_way.Goals as goal

pub returns-then-next_block-block-clause-any_moment : goal.returns-then-next_block-block-clause-any_moment
returns-then-next_block-block-clause-any_moment g c = λ honest.
    let d = g.D.Disk in
    let st = c.requires.stands honest in
    let shelf = c.args.shelf.now in
    moments_begin d.moment d.left_since c.args.keeper.now.disk (RecoversTo (hist shelf.book shelf.mark))
    (λ (image : Files) left. subst (λ h. RecoversTo h image) st.history (c.keeping_laws.ensures.images c.args.keeper.now st.closed st.active image st.keeper (g.met.D.Disk.only_now c.args.keeper.now.disk image honest left)))

pub returns-then-next_block-block-clause-ready : goal.returns-then-next_block-block-clause-ready
returns-then-next_block-block-clause-ready g c = λ honest.
    let st = c.requires.stands honest in
    let book = c.args.shelf.now.book in
    record {
      closed = st.closed;
      active = st.active;
      keeper = st.keeper;
      history = st.history;
      ready =
          ⊎_elim
          (λ (level : IsLevel st.closed book).
          let many = as_many_blocks st.closed book.closed level in
          inl (level_not_full (is_full book.active) (length book.closed) c.next_block.result c.block.result c.next_block.ensures (omega (arith, c.if-next_block-block.true)) (c.block.ensures ∙ st.keeper.rests.number ∙ sym many), level))
          (λ (ahead : IsAhead st.closed book × (history_of st.active ≡ [])). inr ahead)
          st.blocks;
    }

pub rotate-requires-clause-some : goal.rotate-requires-clause-some
rotate-requires-clause-some g c =
    let shelf = c.args.shelf.now in
    let order = c.is_in_order.ensures.book in
    let some = mark_counts shelf.book.closed shelf.book.active shelf.book.stragglers shelf.mark c.next_block.result c.block.result
    (subst (λ (end : ℕ). Follows 1 (settled_parts shelf.book) end) (sym order.ends) order.well_formed.settled) order.well_formed.used c.next_block.ensures (omega (arith, c.if-next_block-block.false)) in
    omega (arith, some, c.requires.count)

pub rotate-requires-clause-used : goal.rotate-requires-clause-used
rotate-requires-clause-used g c = λ honest closed active stands.
    let d = g.D.Disk in
    let st = c.requires.stands honest in
    let shelf = c.args.shelf.now in
    let order = c.is_in_order.ensures.book in
    let files = d.seen c.args.keeper.now.disk in
    let same : st.active ≡ active = c.one_recovery.ensures.active files st.closed closed st.active active st.keeper.rests.recovers stands.rests.recovers in
    let block : c.block.result ≡ length st.closed = c.block.ensures ∙ st.keeper.rests.number in
    subst (λ (frames : List Frame). 0 < length (history_of frames)) same
    (⊎_elim
    (λ (level : IsLevel st.closed shelf.book).
    let many = as_many_blocks st.closed shelf.book.closed level in
    log_is_used shelf order (subst (λ (end : ℕ). Follows 1 (settled_parts shelf.book) end) (sym order.ends) order.well_formed.settled) order.well_formed.used st.closed st.active level st.history c.history_laws.ensures.count
    (level_full (is_full shelf.book.active) (length shelf.book.closed) c.next_block.result c.block.result c.next_block.ensures (omega (arith, c.if-next_block-block.false)) (block ∙ sym many)))
    (λ (ahead : IsAhead st.closed shelf.book × (history_of st.active ≡ [])).
    let many = as_many_blocks st.closed _ ahead.0.1 in
    absurd (not_ahead (is_full shelf.book.active) (length shelf.book.closed) c.next_block.result c.block.result c.next_block.ensures (omega (arith, c.if-next_block-block.false)) ahead.0.0
    (block ∙ sym many ∙ pushed_count shelf.book.closed shelf.book.active)))
    st.blocks)

pub refusal-requires : goal.refusal-requires
refusal-requires g c = λ count is. none-some count (sym c.requires.healthy ∙ (c.rotate.ensures.stopped count).0 (c.in-Err.is ∙ ap Err is))

pub returns-in-Ok-clause-ready : goal.returns-in-Ok-clause-ready
returns-in-Ok-clause-ready g c = λ honest.
    let st = c.requires.stands honest in
    let shelf = c.args.shelf.now in
    let order = c.is_in_order.ensures.book in
    let old = c.args.keeper.now in
    let block : c.block.result ≡ length st.closed = c.block.ensures ∙ st.keeper.rests.number in
    record {
      closed = ended st.closed st.active old.synced;
      active = [];
      keeper = c.in-Ok.ensures.ended honest st.closed st.active st.keeper;
      history = c.keeping_laws.ensures.ended st.closed st.active old.synced ∙ st.history;
      ready =
          inr (
            ⊎_elim
                (λ (level : IsLevel st.closed shelf.book).
                let many = as_many_blocks st.closed shelf.book.closed level in
                ended_is_ahead shelf order (subst (λ (end : ℕ). Follows 1 (settled_parts shelf.book) end) (sym order.ends) order.well_formed.settled) order.well_formed.used st.closed st.active level st.history c.history_laws.ensures.count old.synced
                (level_full (is_full shelf.book.active) (length shelf.book.closed) c.next_block.result c.block.result c.next_block.ensures (omega (arith, c.if-next_block-block.false)) (block ∙ sym many)))
                (λ (ahead : IsAhead st.closed shelf.book × (history_of st.active ≡ [])).
                let many = as_many_blocks st.closed _ ahead.0.1 in
                absurd (not_ahead (is_full shelf.book.active) (length shelf.book.closed) c.next_block.result c.block.result c.next_block.ensures (omega (arith, c.if-next_block-block.false)) ahead.0.0
                (block ∙ sym many ∙ pushed_count shelf.book.closed shelf.book.active)))
                st.blocks,
            refl,
          );
    }
