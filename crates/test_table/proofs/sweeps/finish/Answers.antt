use Rattle.std.proofs.Common.{sym, ap, ◌∙◌, subst, ℕ}
use Rattle.fd_rule.specs.Kinds.MarkRaise.{MayRaise, with_raised}
use Rattle.fd_rule.specs.Kinds.TurnReturn.{MayReturn}
use Rattle.fd_rule.specs.Tables.{Seated}
use Rattle.stubs.specs.declared.stub.Stub.{Stub}
use Rattle.stubs.specs.Stubs.{stub_meaning}
use Rattle.test_table.proofs.SeatSteps.{may_raise, may_return}
use Rattle.test_table.proofs.sweeps.finish.Goals as goal

pub raise_mark-requires-clause-may : goal.raise_mark-requires-clause-may
raise_mark-requires-clause-may c lives = let new = c.advance-mark.new.self in subst (λ (n : ℕ). MayRaise n c.args.seat.now.inner.me.0.turn) (sym c.advance-mark.ensures.mark)
    (may_raise stub_meaning c.args.shelf new c.args.seat.now.inner.me c.requires.hand c.advance-mark.ensures.kept c.advance-mark.ensures.rises (λ n a b. c.book_laws.ensures.held new.book new.mark n c.is_in_order.ensures.book a b))

pub give_turn-requires-clause-may : goal.give_turn-requires-clause-may
give_turn-requires-clause-may c lives = let new = c.advance-mark.new.self in subst (λ (m : Seated Stub). MayReturn new m.0) (sym (c.raise_mark.ensures.me ∙ ap (λ n. (with_raised n c.args.seat.now.inner.me.0, c.args.seat.now.inner.me.1)) c.advance-mark.ensures.mark))
    (may_return stub_meaning c.args.shelf new c.args.seat.now.inner.me c.requires.hand c.advance-mark.ensures.kept c.advance-mark.ensures.history c.advance-mark.ensures.numbers)
