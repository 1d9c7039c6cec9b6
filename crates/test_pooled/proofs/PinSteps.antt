-- What a pin makes of a seat.
use Rattle.std.proofs.Common.{◌≡◌, ℕ, sym, refl, subst}
use Rattle.fd_pins.specs.Pinned.{with_pinned}
use Rattle.fd_rule.specs.Tables.{Seated}
use Rattle.fd_pooled.specs.Pooling.{IsResting}
use Rattle.fd_pooled.specs.StoreLaws.{in_last}
use Rattle.test_pooled.specs.Rests.{AtPin}

pub pins : {P : Type 0} (w : ℕ) (m m' : Seated P) → IsResting m → m' ≡ (with_pinned w m.0, m.1) → AtPin w m'
pins {P} w m m' r is = subst (λ (x : Seated P). AtPin w x) (sym is) record { free = record { turn = r.free.turn; flight = r.free.flight; slots = r.free.slots }; pinned = refl; loaded = in_last w m.0.seen.marks }
