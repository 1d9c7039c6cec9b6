use Rattle.std.proofs.Common.{ap}
use Rattle.fd_rule.specs.Tables.{Seated}
use Rattle.stubs.specs.declared.stub.Stub.{Stub}
use Rattle.test_table.proofs.Replacements.{may_give}
use Rattle.test_table.proofs.seals.seal.Goals as goal

pub give_turn-requires-clause-may : goal.give_turn-requires-clause-may
give_turn-requires-clause-may c lives = may_give c.in-Taken.shelf c.seal_upto-sealed.new.shelf c.lift-least.new.seat.inner.me.0 c.take_turn.new.seat.inner.me.0 c.lift-least.result
    (ap (λ (m : Seated Stub). m.0) c.in-Taken.ensures.tried.0) c.seal_upto-sealed.ensures.mark c.seal_upto-sealed.ensures.rows c.seal_upto-sealed.ensures.keeps c.seal_upto-sealed.ensures.sealed c.lift-least.ensures.raised
