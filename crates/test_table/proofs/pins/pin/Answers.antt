use Rattle.std.proofs.Common.{ℕ, List, ap, sym, subst, ◌∙◌, inl, refl, [], ◌∷◌}
use Rattle.fd_rule.specs.Lists.{In}
use Rattle.fd_rule.specs.Tables.{Seated}
use Rattle.fd_rule.specs.View.{loaded}
use Rattle.stubs.specs.declared.stub.Stub.{Stub}
use Rattle.test_table.proofs.SeatSteps.{in_last}
use Rattle.test_table.proofs.pins.pin.Goals as goal

pub settle-requires-clause-may : goal.settle-requires-clause-may
settle-requires-clause-may c lives = record {
  marks = c.load_mark-mark.result ∷ [];
  arrives = ap (λ (m : Seated Stub). m.0.pinning.state) c.load_mark-mark.ensures.me ∙ ap (λ (m : Seated Stub). loaded c.load_mark-mark.result m.0.pinning.state) c.arrive.ensures.me;
  loaded = inl refl;
}

pub returns-clause-loaded : goal.returns-clause-loaded
returns-clause-loaded c = let me = c.settle.ensures.me in let load = c.load_mark-mark.ensures.me in let mark = c.load_mark-mark.result in
    subst (λ (ms : List ℕ). In mark ms) (sym (ap (λ (m : Seated Stub). m.0.seen.marks) me ∙ ap (λ (m : Seated Stub). m.0.seen.marks) load)) (in_last mark c.arrive.new.seat.inner.me.0.seen.marks)
