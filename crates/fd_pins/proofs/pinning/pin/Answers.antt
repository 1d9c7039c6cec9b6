use Rattle.std.proofs.Common.{ap, ◌∙◌, inl, refl, [], ◌∷◌}
use Rattle.fd_rule.specs.Tables.{Seated}
use Rattle.fd_rule.specs.View.{loaded}
use Rattle.fd_pins.proofs.pinning.pin.Goals as goal

pub settle-requires-clause-may : goal.settle-requires-clause-may
settle-requires-clause-may g c lives longer = record {
  marks = c.load_mark-w.result ∷ [];
  arrives = ap (λ (m : Seated g.row.P.Denot). m.0.pinning.state) c.load_mark-w.ensures.me ∙ ap (λ (m : Seated g.row.P.Denot). loaded c.load_mark-w.result m.0.pinning.state) c.arrive.ensures.me;
  loaded = inl refl;
}
