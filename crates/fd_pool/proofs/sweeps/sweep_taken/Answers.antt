use Rattle.std.proofs.Common.{rules, sym, ap, ◌∙◌, subst, refl, ℕ, ◌≡◌}
use Rattle.fd_rule.specs.Kinds.MarkRaise.{with_raised}
use Rattle.fd_rule.specs.Kinds.TurnReturn.{IsWhole, given_of, with_given}
use Rattle.fd_rule.specs.Kinds.TurnTry.{with_book}
use Rattle.fd_rule.specs.Tables.{Seated}
use Rattle.fd_rule.specs.View.{View}
use Rattle.fd_shelf.specs.Books.{Book}
use Rattle.fd_shelf.specs.Histories.{hist}
use Rattle.fd_pool.specs.Kept.{HasDrawn}
use Rattle.fd_pool.specs.Sweeps.{GaveBack, Sweeping}
use Rattle.fd_pool.proofs.SweptLanes.{gave_swept, gave_up, sweep_begin, sweep_self}
use Rattle.fd_pool.proofs.TurnSteps.{hist_grows}
use Rattle.fd_pool.proofs.sweeps.sweep_taken.Goals as goal

pub gather-requires-clause-so_far : goal.gather-requires-clause-so_far
gather-requires-clause-so_far g c lives longer = let t = c.requires.taken in
    sweep_begin g.P.Held.means c.args.seat.now.board.now.shared.key.seats t.0 c.args.shelf c.reserve.new.self c.args.seat.now.inner.me c.reserve.ensures.book c.reserve.ensures.mark (search rules) t.3

pub returns-then-is_err-clause-swept : goal.returns-then-is_err-clause-swept
returns-then-is_err-clause-swept g c v free later is = let book = c.reserve.new.self.book in let given = given_of book (with_book c.args.shelf v) in (
  given,
  subst (λ (x : View). GaveBack v given x) (sym (ap (λ (m : Seated g.row.P.Denot). m.0) c.give_up.ensures.me ∙ ap (λ (m : Seated g.row.P.Denot). with_given book m.0) is))
      (gave_up v c.args.shelf book later (ap (λ (b : Book). hist b c.args.shelf.mark) c.reserve.ensures.book)),
)

pub end_turn-mark-requires-clause-so_far : goal.end_turn-mark-requires-clause-so_far
end_turn-mark-requires-clause-so_far g c lives longer = let a : c.args.seat.now.board.now.shared.key.seats ≡ c.gather.new.seat.board.now.shared.key.seats = search rules in let b : c.count-seats.result ≡ c.gather.new.seat.board.now.shared.key.seats = search rules in
    sweep_self g.P.Held.means c.gather.new.seat.board.now.shared.key.seats c.args.seat.now.inner.me.0 c.gather.new.seat.inner.me c.gather.new.shelf c.gather.new.seat.board.now.shared.key.seats
    (subst (λ (z : ℕ × ℕ). Sweeping {P = g.row.P.Denot} z.0 c.args.seat.now.inner.me.0 c.gather.new.seat.inner.me c.gather.new.shelf z.1) (λ i. (a i, b i)) c.gather.ensures.so_far)

pub returns-clause-swept : goal.returns-clause-swept
returns-clause-swept g c v free later is = let w = c.end_turn-mark.ensures.whole in let book = w.0 in let mark = c.end_turn-mark.result in let mid = c.gather.new.seat.inner.me in let a : c.gather.new.seat.board.now.shared.key.seats ≡ c.args.seat.now.board.now.shared.key.seats = search rules in
    let r = subst (λ (m : Seated g.row.P.Denot). Sweeping {P = g.row.P.Denot} c.args.seat.now.board.now.shared.key.seats m.0 mid c.gather.new.shelf c.count-seats.result) is c.gather.ensures.so_far in
    let given = given_of book (with_raised mark mid.0) in (
      given,
      subst (λ (m : Seated g.row.P.Denot). GaveBack v given m.0) (sym w.1)
          (gave_swept g.P.Held.means c.args.seat.now.board.now.shared.key.seats v c.args.shelf c.gather.new.shelf mid c.count-seats.result mark book later (hist_grows mid.0.turn.book mid.0.turn.mark mark c.end_turn-mark.ensures.rises) r w.2
          (subst (λ (m : Seated g.row.P.Denot). HasDrawn mid.0 → HasDrawn m.0) w.1 c.end_turn-mark.ensures.drawn)),
      subst (λ n. IsWhole n given) a w.3,
      refl,
    )
