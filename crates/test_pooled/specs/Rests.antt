-- What a seat and a pass stand at between the calls of a test.
use Rattle.std.specs.Prelude.{◌≡◌, ◌+◌, ℕ, false, List, [], ◌∷◌}
use Rattle.atomic_table.specs.Seated.{TableId}
use Rattle.fd_kinds.specs.Parts.{PartMeaning}
use Rattle.fd_shelf.specs.Books.{Each}
use Rattle.fd_rule.specs.Kinds.BatchLanding.{MayLand}
use Rattle.fd_rule.specs.Lists.{In}
use Rattle.fd_rule.specs.Seats.{pass_view}
use Rattle.fd_rule.specs.Tables.{Seated}
use Rattle.fd_rule.specs.View.{idle, settled}
use Rattle.fd_rule.specs.declared.pass.Pass.{Pass}
use Rattle.fd_rule.specs.declared.slot.SlotValue.TheVariants.{Empty}
use Rattle.fd_pool.specs.Finishes.{IsRested}
use Rattle.fd_pool.specs.Kept.{IsFree}
use Rattle.fd_pool.specs.Pools.{IsPassAt, pool_seats, pool_table}
use Rattle.fd_pool.specs.declared.pool.Pool.{Pool}

-- a pin at a mark that was loaded, and no turn, no slot and nothing in flight
pub record AtPin {P : Type 0} (w : ℕ) (m : Seated P) : Type 0 where
  pub free : IsFree m
  pub pinned : m.0.pinning.state ≡ settled w
  pub loaded : In w m.0.seen.marks

-- the part has the number in flight, and the slot of the lane is out
pub record InFlight {P : Type 0} (part : PartMeaning) (m : Seated P) : Type 0 where
  pub turn : m.0.turn.holds ≡ false
  pub may : MayLand part m.0.draws
  pub idles : m.0.pinning.state ≡ idle
  pub slots : m.1 ≡ (1 + m.0.place.number, Empty) ∷ []

-- a pass of the table, whose seat is at rest
pub record IsSeatAt (table : TableId) (seats : ℕ) (pass : Pass) : Type 0 where
  pub of : IsPassAt table seats pass
  pub rested : IsRested (pass_view pass)

abbrev pub IsSeatOf : {P : Type 0} → Pool P → Pass → Type 0
IsSeatOf pool pass = IsSeatAt (pool_table pool) (pool_seats pool) pass

abbrev pub AreSeatsOf : {P : Type 0} → Pool P → List Pass → Type 0
AreSeatsOf pool passes = Each (IsSeatAt (pool_table pool) (pool_seats pool)) passes
