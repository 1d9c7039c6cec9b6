-- What a seat stands at between the calls of a test.
use Rattle.std.specs.Prelude.{◌≡◌, ◌+◌, true, false, [], ◌∷◌}
use Rattle.fd_kinds.specs.Parts.{PartMeaning}
use Rattle.fd_shelf.specs.Books.{Shelved}
use Rattle.fd_rule.specs.Kinds.BatchLanding.{MayLand}
use Rattle.fd_rule.specs.Tables.{Seated}
use Rattle.fd_rule.specs.View.{View, idle, bare}
use Rattle.stubs.specs.declared.stub.Stub.{Stub}
use Rattle.fd_rule.specs.declared.slot.SlotValue.TheVariants.{Empty}

-- no turn, no slot, no pin, and nothing in flight
pub record AtRest {P : Type 0} (m : Seated P) : Type 0 where
  pub turn : m.0.turn.holds ≡ false
  pub flight : m.0.draws.flight ≡ 0
  pub idles : m.0.pinning.state ≡ idle
  pub slots : m.1 ≡ []

-- .. as a pass keeps it
abbrev pub IsResting : View → Type 0
IsResting v = AtRest {P = Stub} (v, [])

-- the part has the number in flight, and the slot of the lane is out
pub record InFlight {P : Type 0} (part : PartMeaning) (m : Seated P) : Type 0 where
  pub turn : m.0.turn.holds ≡ false
  pub may : MayLand part m.0.draws
  pub idles : m.0.pinning.state ≡ idle
  pub slots : m.1 ≡ (1 + m.0.place.number, Empty) ∷ []

-- the turn, with the shelf in hand, and no lane's part out
pub record InHand {P : Type 0} (shelf : Shelved) (m : Seated P) : Type 0 where
  pub holds : m.0.turn.holds ≡ true
  pub hand : m.0.turn.hand ≡ bare
  pub book : m.0.turn.book ≡ shelf.book
  pub mark : m.0.turn.mark ≡ shelf.mark
  pub flight : m.0.draws.flight ≡ 0
  pub idles : m.0.pinning.state ≡ idle
  pub slots : m.1 ≡ (0, Empty) ∷ []
