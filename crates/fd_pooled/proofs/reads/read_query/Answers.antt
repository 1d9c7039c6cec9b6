use Rattle.std.proofs.Common.{rules, arith, ◌≡◌, ℕ, ◌≤◌, Err, sym, subst, ap, ◌∙◌}
use Rattle.std.proofs.lemmas.Result.{err_from_is_err_and}
use Rattle.fd_kinds.specs.History.{upto}
use Rattle.fd_kinds.specs.Meaning.{meaning}
use Rattle.fd_kinds.specs.declared.store.ReadRefusal.TheVariants.{NoMemory}
use Rattle.fd_part.specs.Parts.{part_meaning}
use Rattle.fd_part.specs.declared.part.Part.{Part}
use Rattle.fd_shelf.specs.declared.picks.InBlock.{InBlock}
use Rattle.fd_rule.specs.Kinds.DrawnLoad.{with_drawn}
use Rattle.fd_rule.specs.Seats.{seat_count}
use Rattle.fd_rule.specs.Tables.{Seated}
use Rattle.fd_rule.specs.View.{View}
use Rattle.fd_pooled.specs.Calls.{HasReadOr}
use Rattle.fd_pooled.specs.Steps.{HasReached}
use Rattle.fd_pooled.proofs.Passing.{failed_pin, read, rows_of_seen}
use Rattle.fd_pooled.proofs.reads.read_query.Goals as goal

pub returns-in_err-listed-clause-gives : goal.returns-in_err-listed-clause-gives
returns-in_err-listed-clause-gives g c = let v = c.args.seat.now.inner.me.0 in let n = seat_count c.args.seat.now in let drawn = c.drawn-drawn.result in let u = c.sweep_upto.new.seat.inner.me.0 in let x = c.pin_and_list.new.seat.inner.me.0 in
    let count : seat_count c.drawn-drawn.new.seat ≡ n = search rules in
    let loaded : c.drawn-drawn.new.seat.inner.me.0 ≡ with_drawn drawn v = ap (λ (m : Seated Part). m.0) c.drawn-drawn.ensures.me in
    let reached : HasReached n (with_drawn drawn v) c.args.after u = subst (λ (a : ℕ × View). HasReached a.0 a.1 c.args.after u) (λ i. (count i, loaded i)) c.in_ok-sweep_upto.ensures.ok in
    let allowed : c.args.after ≤ drawn = omega (arith, c.if-after-drawn.false) in
    let p = err_from_is_err_and c.from_residual-in_err-listed.result c.from_residual-in_err-listed.ensures.1 in
    let is : c.from_residual-in_err-listed.result ≡ Err NoMemory = p.1 ∙ ap (λ e. Err e) p.2 in
    let t = c.in_err-listed.ensures.err in
    subst (λ r. HasReadOr n v c.args.after c.args.query.now r x) (sym is) (failed_pin n v c.args.after drawn allowed u t.0 t.1 x reached t.2)

pub returns-in_err-answer-clause-gives : goal.returns-in_err-answer-clause-gives
returns-in_err-answer-clause-gives g c = let v = c.args.seat.now.inner.me.0 in let n = seat_count c.args.seat.now in let drawn = c.drawn-drawn.result in let u = c.sweep_upto.new.seat.inner.me.0 in let x = c.pin_and_list.new.seat.inner.me.0 in
    let count : seat_count c.drawn-drawn.new.seat ≡ n = search rules in
    let loaded : c.drawn-drawn.new.seat.inner.me.0 ≡ with_drawn drawn v = ap (λ (m : Seated Part). m.0) c.drawn-drawn.ensures.me in
    let reached : HasReached n (with_drawn drawn v) c.args.after u = subst (λ (a : ℕ × View). HasReached a.0 a.1 c.args.after u) (λ i. (count i, loaded i)) c.in_ok-sweep_upto.ensures.ok in
    let allowed : c.args.after ≤ drawn = omega (arith, c.if-after-drawn.false) in
    let p = err_from_is_err_and c.from_residual-in_err-answer.result c.from_residual-in_err-answer.ensures.1 in
    let is : c.from_residual-in_err-answer.result ≡ Err NoMemory = p.1 ∙ ap (λ e. Err e) p.2 in
    let l = c.in_ok-listed.ensures.ok in
    subst (λ r. HasReadOr n v c.args.after c.args.query.now r x) (sym is) (failed_pin n v c.args.after drawn allowed u c.in_ok-listed.listed.watermark l.given x reached l.pinned)

pub returns-clause-gives : goal.returns-clause-gives
returns-clause-gives g c = let v = c.args.seat.now.inner.me.0 in let n = seat_count c.args.seat.now in let drawn = c.drawn-drawn.result in let u = c.sweep_upto.new.seat.inner.me.0 in let x = c.pin_and_list.new.seat.inner.me.0 in
    let count : seat_count c.drawn-drawn.new.seat ≡ n = search rules in
    let loaded : c.drawn-drawn.new.seat.inner.me.0 ≡ with_drawn drawn v = ap (λ (m : Seated Part). m.0) c.drawn-drawn.ensures.me in
    let reached : HasReached n (with_drawn drawn v) c.args.after u = subst (λ (a : ℕ × View). HasReached a.0 a.1 c.args.after u) (λ i. (count i, loaded i)) c.in_ok-sweep_upto.ensures.ok in
    let allowed : c.args.after ≤ drawn = omega (arith, c.if-after-drawn.false) in
    let l = c.in_ok-listed.ensures.ok in let parts = c.in_ok-listed.listed.parts in
    read n v c.args.after drawn allowed u c.args.query.now record { watermark = c.in_ok-listed.listed.watermark; answer = c.in_ok-answer.answer } _ x reached l
    (c.in_ok-answer.ensures ∙ (ap (meaning c.args.query.now) (rows_of_seen (λ (i : InBlock Part). part_meaning i.part) parts) ∙ c.meaning_laws.ensures.meaning c.args.query.now _ (upto x.seen.history c.in_ok-listed.listed.watermark) l.lists.rows))
