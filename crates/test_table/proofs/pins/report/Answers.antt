use Rattle.std.proofs.Common.{sym, subst, arith}
use Rattle.fd_rule.specs.Kinds.Announcement.{MayAnnounce}
use Rattle.fd_rule.specs.Tables.{Seated}
use Rattle.stubs.specs.declared.stub.Stub.{Stub}
use Rattle.test_table.proofs.SeatSteps.{in_last}
use Rattle.test_table.proofs.pins.report.Goals as goal

pub announce-requires-clause-may : goal.announce-requires-clause-may
announce-requires-clause-may c lives = let mark = c.load_mark-mark.result in let said = c.load_mark-mark.ensures.loaded.announced c.requires.number in
    subst (λ (m : Seated Stub). MayAnnounce mark m.0) (sym c.load_mark-mark.ensures.me)
    record { number = c.requires.number; rises = said; mark = mark; loaded = in_last mark c.args.seat.now.inner.me.0.seen.marks; within = omega arith }
