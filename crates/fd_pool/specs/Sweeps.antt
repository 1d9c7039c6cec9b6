-- A sweep.
use Rattle.std.specs.Prelude.{◌≡◌, ℕ, ◌+◌, ◌<◌, ◌≤◌, true, [], ◌∷◌}
use Rattle.fd_shelf.specs.Books.{Shelved}
use Rattle.fd_shelf.specs.Histories.{hist}
use Rattle.fd_rule.specs.Kinds.TurnReturn.{IsWhole}
use Rattle.fd_rule.specs.Kinds.TurnTry.{with_refusal}
use Rattle.fd_rule.specs.Lists.{In}
use Rattle.fd_rule.specs.Tables.{Seated}
use Rattle.fd_rule.specs.View.{View, Given, bare}
use Rattle.fd_rule.specs.declared.slot.SlotValue.TheVariants.{Empty}
use Rattle.fd_pool.specs.declared.sweeps.Sweep.{Sweep}
use Rattle.fd_pool.specs.declared.sweeps.Sweep.TheVariants.{Swept, Busy, NoMemory}
use Rattle.fd_pool.specs.Turns.{Turned}

-- the turn was taken at the first try, and given back as g
pub record GaveBack (old : View) (g : Given) (new : View) : Type 0 where
  pub turned : Turned old g new
  pub refused : new.tries.refused ≡ old.tries.refused

-- The turn was given back whole at the mark; or this holder was found, and nothing else is new; or the turn was given back.
abbrev pub HasSwept : ℕ → View → Sweep → View → Type 0
HasSwept seats old (Swept mark) new = (g : Given) × GaveBack old g new × IsWhole seats g × (g.mark ≡ mark)
HasSwept seats old (Busy holder) new = new ≡ with_refusal (holder + 1) old
HasSwept seats old NoMemory new = (g : Given) × GaveBack old g new

-- The holder of the turn has looked at the lanes below one since it had the view `old`, and has nothing in hand but the shelf.
pub record Sweeping {P : Type 0} (seats : ℕ) (old : View) (m : Seated P) (shelf : Shelved) (at : ℕ) : Type 0 where
  pub holds : m.0.turn.holds ≡ true
  pub hand : m.0.turn.hand ≡ bare
  pub book : m.0.turn.book ≡ shelf.book
  pub mark : m.0.turn.mark ≡ shelf.mark
  pub slots : m.1 ≡ (0, Empty) ∷ []
  pub looked : (k : ℕ) → k < at → In k m.0.turn.looked
  pub lane : old.place.number < at → m.0.draws.empty ≡ true
  pub past : hist m.0.turn.book m.0.turn.mark ≡ hist old.turn.book old.turn.mark
  pub spare : seats ≤ shelf.spare + at
  pub place : m.0.place ≡ old.place
  pub own : m.0.draws.own ≡ old.draws.own
  pub flight : m.0.draws.flight ≡ old.draws.flight
  pub seen : m.0.seen ≡ old.seen
  pub tries : m.0.tries ≡ old.tries
  pub books : m.0.books ≡ old.books
  pub pinning : m.0.pinning ≡ old.pinning
