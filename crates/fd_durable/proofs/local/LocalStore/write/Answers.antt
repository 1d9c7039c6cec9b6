use Rattle.std.proofs.Common.{arith, ap, sym, ◌∙◌, subst, ◌≡◌, ◌≤◌, ◌<◌, ◌+◌, ◌++◌, ◌∷◌, ℕ, Bool, false, List, [], length, filter, is_some, refl, Result, Ok, Err}
use Rattle.std.proofs.lemmas.Result.{err_from_is_err_and}
use Rattle.fd_kinds.specs.declared.store.WriteRefusal.{WriteRefusal}
use Rattle.fd_kinds.specs.History.{History}
use Rattle.fd_kinds.specs.Parts.{rows_of}
use Rattle.fd_device.specs.Disks.{Files}
use Rattle.fd_device.specs.Moments.{LeavesOnly}
use Rattle.fd_shelf.specs.Books.{Book}
use Rattle.fd_shelf.specs.Histories.{hist, in_row_order}
use Rattle.fd_shelf.specs.Steps.{is_loose}
use Rattle.fd_part.specs.Parts.{part_meaning}
use Rattle.fd_wal.specs.Runs.{rows_in}
use Rattle.fd_keeper.specs.Blocks.{RecoversTo}
use Rattle.fd_durable.specs.Durable.{Held, Whole, WritesThrough}
use Rattle.fd_durable.specs.Logs.{HasLogged}
use Rattle.fd_durable.proofs.Views.{view_of, held_of, gives_ok, gives_err, few_left, stands_images, logged_images, wanting_is_no_fault, ok_is_no_fault, rows_of_numbered, none_of, only_wanting, stands_same}
use Rattle.fd_durable.proofs.LogSteps.{admitted}
use Rattle.fd_durable.proofs.local.LocalStore.write.Goals as goal

pub log-requires-clause-count : goal.log-requires-clause-count
log-requires-clause-count g c κs within =
    let healthy : is_some c.self.inside.keeper.fault ≡ false = ap (λ (h : Held _). h.failed) c.self.view_is ∙ c.requires.healthy in
    c.self.invariant.2 (none_of c.self.inside.keeper.fault healthy) ∙ sym c.in_ok-reserve.ensures.mark

pub log-requires-clause-stands : goal.log-requires-clause-stands
log-requires-clause-stands g c κs within = λ h.
    let d = g.D.Disk in
    let healthy : is_some c.self.inside.keeper.fault ≡ false = ap (λ (held : Held _). held.failed) c.self.view_is ∙ c.requires.healthy in
    stands_same d.seen d.may_leave c.self.inside.keeper c.self.inside.shelf c.reserve.new.self c.in_ok-reserve.ensures.book c.in_ok-reserve.ensures.mark
    (c.self.invariant.3 (none_of c.self.inside.keeper.fault healthy) h)

pub invariant_of-self-in_err-log : goal.invariant_of-self-in_err-log
invariant_of-self-in_err-log g c =
    let log = c.in_err-log.ensures in
    let wanting = only_wanting c.in_err-log.field-0.0 c.log.new.keeper.fault (g.D.Disk.faults c.log.new.keeper.disk) (λ drawn is. log.drawn drawn (ap Err is)) (λ is. log.failed (ap Err is)) in (
      ap (λ (b : Book). b.stragglers) c.in_ok-reserve.ensures.book ∙ c.self.invariant.0,
      omega (arith, c.self.invariant.1, c.in_ok-reserve.ensures.mark),
      λ none. log.count_kept (ap Err (wanting none)),
      λ none h. log.stands (log.honesty.1 h) (ap Err (wanting none)),
    )

pub invariant_of-self-2 : goal.invariant_of-self-2
invariant_of-self-2 g c =
    let d = g.D.Disk in
    let shelf = c.reserve.new.self in
    let after = c.compact_full.new.shelf in
    let rows = c.args.batch.rows in
    let batch : rows_of (part_meaning c.in_ok-part.part).rows ≡ rows = ap (λ p. rows_of p.rows) c.in_ok-part.ensures ∙ rows_of_numbered 0 rows in
    let gained : hist after.book after.mark ≡ hist shelf.book shelf.mark ++ rows ∷ [] =
    ap (hist after.book) c.compact_full.ensures.mark
    ∙ c.compact_full.ensures.history c.add.new.shelf.mark
    ∙ c.add.ensures.history
    ∙ ap (λ batch. hist shelf.book shelf.mark ++ in_row_order batch ∷ []) batch
    ∙ ap (λ batch. hist shelf.book shelf.mark ++ batch ∷ []) (c.batch_laws.ensures.sorted rows c.args.batch.sorted) in (
      c.compact_full.ensures.stragglers ∙ c.add.ensures.alone,
      omega (arith, c.self.invariant.1, c.in_ok-reserve.ensures.mark, c.add.ensures.mark, c.compact_full.ensures.mark),
      λ none. c.in_ok-log.ensures.count ∙ sym c.add.ensures.mark ∙ sym c.compact_full.ensures.mark,
      λ none h. admitted d.seen d.may_leave c.log.new.keeper shelf after rows
          (subst (λ (more : History). HasLogged d.seen d.may_leave more c.log.new.keeper shelf) c.in_ok-batches.ensures.rows (c.in_ok-log.ensures.logged (c.log.ensures.honesty.1 h)))
          gained
          (c.compact_full.ensures.closed ∙ c.add.ensures.closed),
    )

pub returns-in_err-log-clause-gives : goal.returns-in_err-log-clause-gives
returns-in_err-log-clause-gives g c =
    let d = g.D.Disk in
    let inside = c.self.inside in
    let shelf = c.reserve.new.self in
    let new = c.log.new.keeper in
    let rows = c.args.batch.rows in
    let refusal = c.in_err-log.field-0.0 in
    let told = err_from_is_err_and c.from_residual-in_err-log.result c.from_residual-in_err-log.ensures.1 in
    let history : History = hist shelf.book shelf.mark in
    let loose : ℕ = length (filter is_loose shelf.book.active) in
    let fault : Bool = is_some inside.keeper.fault in
    let seen_as : held_of (view_of inside.opened history loose inside.wanting) inside.keeper.disk fault ≡ c.args.self.now =
    ap (λ (b : Book). held_of (view_of inside.opened (hist b shelf.mark) (length (filter is_loose b.active)) inside.wanting) inside.keeper.disk fault) c.in_ok-reserve.ensures.book
    ∙ ap (λ m. held_of (view_of inside.opened (hist inside.shelf.book m) (length (filter is_loose inside.shelf.book.active)) inside.wanting) inside.keeper.disk fault) c.in_ok-reserve.ensures.mark
    ∙ c.self.view_is in
    let healthy : fault ≡ false = ap (λ (h : Held _). h.failed) c.self.view_is ∙ c.requires.healthy in
    let after : Held _ = held_of (view_of inside.opened history loose inside.wanting) new.disk (is_some new.fault) in
    subst (λ (result : Result ℕ WriteRefusal). WritesThrough d.honest d.seen d.may_leave d.moment d.left_since c.args.self.now rows result after) (sym (told.1 ∙ ap Err told.2))
    (subst (λ (old : Held _). WritesThrough d.honest d.seen d.may_leave d.moment d.left_since old rows (Err refusal) after) seen_as
    (gives_err d.honest d.seen d.may_leave d.moment d.left_since inside.opened history loose inside.wanting inside.keeper.disk new.disk fault healthy c.in_err-log.ensures.honesty rows refusal (is_some new.fault)
    (λ drawn is. c.in_err-log.ensures.drawn drawn (ap Err is))
    (λ is. ap is_some (c.in_err-log.ensures.failed (ap Err is)))
    g.met.D.Disk.counts_now
    (λ h. subst (λ (more : History). LeavesOnly d.moment d.left_since inside.keeper.disk new.disk (Whole history more)) c.in_ok-batches.ensures.rows (c.in_err-log.ensures.any_moment h))
    (λ h is. c.in_err-log.ensures.wanting h (ap Err is))
    (λ h is. stands_images d.seen d.may_leave new shelf (c.in_err-log.ensures.stands h (ap Err is)))
    (λ h is before. c.in_err-log.ensures.settled h before (wanting_is_no_fault (Err refusal) (ap Err is)))))

pub returns-clause-gives : goal.returns-clause-gives
returns-clause-gives g c =
    let d = g.D.Disk in
    let inside = c.self.inside in
    let shelf = c.reserve.new.self in
    let new = c.log.new.keeper in
    let after = c.compact_full.new.shelf in
    let rows = c.args.batch.rows in
    let history : History = hist shelf.book shelf.mark in
    let loose : ℕ = length (filter is_loose shelf.book.active) in
    let fault : Bool = is_some inside.keeper.fault in
    let seen_as : held_of (view_of inside.opened history loose inside.wanting) inside.keeper.disk fault ≡ c.args.self.now =
    ap (λ (b : Book). held_of (view_of inside.opened (hist b shelf.mark) (length (filter is_loose b.active)) inside.wanting) inside.keeper.disk fault) c.in_ok-reserve.ensures.book
    ∙ ap (λ m. held_of (view_of inside.opened (hist inside.shelf.book m) (length (filter is_loose inside.shelf.book.active)) inside.wanting) inside.keeper.disk fault) c.in_ok-reserve.ensures.mark
    ∙ c.self.view_is in
    let healthy : fault ≡ false = ap (λ (h : Held _). h.failed) c.self.view_is ∙ c.requires.healthy in
    let same : hist inside.shelf.book inside.shelf.mark ≡ history = ap (λ b. hist b inside.shelf.mark) (sym c.in_ok-reserve.ensures.book) ∙ ap (hist shelf.book) (sym c.in_ok-reserve.ensures.mark) in
    let counted : c.drawn-drawn.result ≡ length history = c.drawn-drawn.ensures.count ∙ ap length same in
    let below : inside.opened ≤ length history = omega (arith, c.self.invariant.1, c.drawn-drawn.ensures.mark, counted) in
    let batch : rows_of (part_meaning c.in_ok-part.part).rows ≡ rows = ap (λ p. rows_of p.rows) c.in_ok-part.ensures ∙ rows_of_numbered 0 rows in
    let gained : hist after.book after.mark ≡ history ++ rows ∷ [] =
    ap (hist after.book) c.compact_full.ensures.mark
    ∙ c.compact_full.ensures.history c.add.new.shelf.mark
    ∙ c.add.ensures.history
    ∙ ap (λ batch. history ++ in_row_order batch ∷ []) batch
    ∙ ap (λ batch. history ++ batch ∷ []) (c.batch_laws.ensures.sorted rows c.args.batch.sorted) in
    subst (λ (old : Held _). WritesThrough d.honest d.seen d.may_leave d.moment d.left_since old rows (Ok (c.drawn-drawn.result + 1))
    (held_of (view_of inside.opened (hist after.book after.mark) (length (filter is_loose after.book.active)) c.is_err-self-inside.result) new.disk (is_some new.fault))) seen_as
    (gives_ok d.honest d.seen d.may_leave d.moment d.left_since inside.opened history loose inside.wanting inside.keeper.disk new.disk fault healthy c.log.ensures.honesty rows c.drawn-drawn.result
    (c.drawn-drawn.result + 1)
    (hist after.book after.mark)
    (length (filter is_loose after.book.active))
    c.is_err-self-inside.result
    (is_some new.fault)
    counted
    below
    (omega (arith, c.if-drawn-ge-MOST_NUMBERS.false))
    refl
    gained
    (λ told. few_left c.compact_full.result (sym c.is_err-self-inside.ensures.value ∙ told) c.compact_full.ensures.fewer)
    (λ h. subst (λ (more : History). LeavesOnly d.moment d.left_since inside.keeper.disk new.disk (Whole history more)) c.in_ok-batches.ensures.rows (c.log.ensures.any_moment h))
    (λ h image left. subst (λ (more : History). RecoversTo (history ++ more) image) c.in_ok-batches.ensures.rows (logged_images d.seen d.may_leave new shelf (rows_in c.in_ok-batches.batches) (c.in_ok-log.ensures.logged h) image left))
    (λ h before. c.in_ok-log.ensures.settled h before (ok_is_no_fault (Ok c.in_ok-log.field-0) _ refl)))
