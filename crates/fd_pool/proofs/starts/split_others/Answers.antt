use Rattle.std.proofs.Common.{rules, sym, subst, refl, ap, ◌∙◌, ◌≡◌, ◌+◌, ◌∷◌, ◌++◌, ℕ, List, [], arith}
use Rattle.fd_rule.specs.Kinds.SeatSplit.{split_left, split_right}
use Rattle.fd_rule.specs.Seats.{pass_seats, pass_table, pass_view, seat_count, seat_table}
use Rattle.fd_rule.specs.Tables.{Seated}
use Rattle.fd_rule.specs.View.{View}
use Rattle.fd_rule.specs.declared.pass.Pass.{Pass}
use Rattle.fd_shelf.specs.Books.{Each}
use Rattle.fd_pool.specs.Pools.{IsPassAt, views_of}
use Rattle.fd_pool.specs.Starts.{split_off, with_next}
use Rattle.fd_pool.proofs.Gathered.{each_push, split_more, views_end}
use Rattle.fd_pool.proofs.starts.split_others.Goals as goal

pub loop-at-init : goal.loop-at-init
loop-at-init g c = let v = c.args.seat.now.inner.me.0 in let same : v.place.next ≡ v.place.next + 0 = omega arith in (
  ap (λ (n : ℕ). (with_next n v, c.args.seat.now.inner.me.1)) same,
  refl,
  (refl, refl),
  ap (λ (l : List Pass). views_of l) c.requires.empty,
  subst (λ (l : List Pass). Each (IsPassAt (seat_table c.args.seat.now) (seat_count c.args.seat.now)) l) (sym c.requires.empty) tt,
  c.requires.len,
  c.requires.room,
)

pub loop-at-preserved : goal.loop-at-preserved
loop-at-preserved g c = let v = c.args.seat.now.inner.me.0 in let i = c.loop-at.invariant in let at = c.loop-at.at in let pass = c.leave.result in
    let next : v.place.next + at + 1 ≡ v.place.next + (at + 1) = omega arith in
    let view : pass_view pass ≡ split_right (with_next (v.place.next + at) v) = c.leave.ensures.view ∙ (ap (λ (m : Seated g.row.P.Denot). m.0) c.split.ensures.new ∙ ap (λ (m : Seated g.row.P.Denot). split_right m.0) i.0) in
    let table : pass_table pass ≡ seat_table c.args.seat.now = c.leave.ensures.base ∙ (c.split.ensures.base ∙ i.1) in
    let count : pass_seats pass ≡ seat_count c.args.seat.now = search rules in
    let items = c.put_last.ensures.items in (
      c.split.ensures.me ∙ (ap (λ (m : Seated g.row.P.Denot). (split_left m.0, m.1)) i.0 ∙ ap (λ (n : ℕ). (with_next n v, c.args.seat.now.inner.me.1)) next),
      search rules,
      (search rules, search rules),
      ap (λ (l : List Pass). views_of l) items ∙ (views_end c.loop-at.passes.items pass ∙ (ap (λ (vs : List View). vs ++ pass_view pass ∷ []) i.3 ∙ (ap (λ (u : View). split_off v at ++ u ∷ []) view ∙ split_more v at))),
      subst (λ (l : List Pass). Each (IsPassAt (seat_table c.args.seat.now) (seat_count c.args.seat.now)) l) (sym items) (each_push (IsPassAt (seat_table c.args.seat.now) (seat_count c.args.seat.now)) c.loop-at.passes.items pass i.4 (table, count)),
      search rules,
      search rules,
    )
